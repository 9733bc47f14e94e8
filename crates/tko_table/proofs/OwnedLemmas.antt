-- Owned servers after a change of one server's mark.
use Rattle.std.proofs.Common.{◌≡◌, ℕ, ◌<◌, Bool, true, false, eqb, ◌||◌, List, [], ◌∷◌, length, set}
use Rattle.std.proofs.Common.{Option, Some, None, refl, sym, ap, ◌∙◌, ⊎_elim, inl, inr}
use Rattle.std.proofs.Common.{get_or-set_same, get_or-set_other}
use Rattle.std.proofs.lemmas.Bool.{cases_Bool, cases_eq, cond-false, cond-true, eq-eqb, eqb-true}
use Rattle.std.proofs.lemmas.Bool.{ne_eqb}
use Rattle.tko_model.specs.declared.mark.Mark.{Mark}
use Rattle.tko_model.specs.declared.mark.Mark.TheVariants.{Up, Soft, Hard}
use Rattle.tko_model.specs.declared.state.ServerState.{ServerState}
use Rattle.tko_model.specs.Tracker.{server_at}
use Rattle.tko_steps.specs.Owners.{owner_of}
use Rattle.tko_table.specs.Passes.{is_marked_by, owned_with, owns, without}

-- a mark that names this number or none
abbrev pub NamesOnly : ℕ → Mark → Type 0
NamesOnly number mark = (other : ℕ) → owner_of mark ≡ Some other → other ≡ number

-- what the thread with this number makes of a mark that names it or none
abbrev pub is_mark : Mark → Bool
is_mark (Up count) = false
is_mark (Soft owner) = true
is_mark (Hard owner) = true

pub marked-own : (mark : Mark) (number : ℕ) → NamesOnly number mark
    → is_marked_by (Some number) mark ≡ is_mark mark
marked-own (Up count) number only = refl
marked-own (Soft owner) number only = eq-eqb owner number (only owner refl)
marked-own (Hard owner) number only = eq-eqb owner number (only owner refl)

-- such a mark is no other thread's
pub marked-other : (mark : Mark) (number : ℕ) (found : Option ℕ) → NamesOnly number mark
    → (found ≡ Some number → ⊥)
    → is_marked_by found mark ≡ false
marked-other mark number None only apart = refl
marked-other (Up count) number (Some at) only apart = refl
marked-other (Soft owner) number (Some at) only apart =
    ne_eqb owner at (λ same. apart (ap Some (sym same ∙ only owner refl)))
marked-other (Hard owner) number (Some at) only apart =
    ne_eqb owner at (λ same. apart (ap Some (sym same ∙ only owner refl)))

or-false : (test other : Bool) → test ≡ false → (test || other) ≡ other
or-false test other e = ap (λ it. it || other) e

or-true : (test other : Bool) → test ≡ true → (test || other) ≡ true
or-true test other e = ap (λ it. it || other) e

owns-without_same : (server : ℕ) (owned : List ℕ) → owns (without server owned) server ≡ false
owns-without_same server [] = refl
owns-without_same server (own ∷ owned) =
    elim (cases_Bool (eqb own server)) [
      | inl same ↦ ap (λ it. owns it server)
          (cond-true (eqb own server) (without server owned) (own ∷ without server owned) same)
          ∙ owns-without_same server owned
      | inr apart ↦ ap (λ it. owns it server)
          (cond-false (eqb own server) (without server owned) (own ∷ without server owned) apart)
          ∙ or-false (eqb own server) (owns (without server owned) server) apart
          ∙ owns-without_same server owned
    ]

owns-without_other : (server at : ℕ) (owned : List ℕ) → (at ≡ server → ⊥)
    → owns (without server owned) at ≡ owns owned at
owns-without_other server at [] apart = refl
owns-without_other server at (own ∷ owned) apart =
    elim (cases_Bool (eqb own server)) [
      | inl same ↦
          let is = eqb-true own server same in
          let not_at : eqb own at ≡ false = ne_eqb own at (λ e. apart (sym e ∙ is)) in
          ap (λ it. owns it at)
          (cond-true (eqb own server) (without server owned) (own ∷ without server owned) same)
          ∙ owns-without_other server at owned apart
          ∙ sym (or-false (eqb own at) (owns owned at) not_at)
      | inr other ↦ ap (λ it. owns it at)
          (cond-false (eqb own server) (without server owned) (own ∷ without server owned) other)
          ∙ ap (λ it. eqb own at || it) (owns-without_other server at owned apart)
    ]

owns-with_same : (owned : List ℕ) (server : ℕ) (mark : Mark)
    → owns (owned_with owned server mark) server ≡ is_mark mark
owns-with_same owned server (Up count) = owns-without_same server owned
owns-with_same owned server (Soft owner) =
    or-true (eqb server server) (owns (without server owned) server) (eq-eqb server server refl)
owns-with_same owned server (Hard owner) =
    or-true (eqb server server) (owns (without server owned) server) (eq-eqb server server refl)

owns-with_other : (owned : List ℕ) (server at : ℕ) (mark : Mark) → (at ≡ server → ⊥)
    → owns (owned_with owned server mark) at ≡ owns owned at
owns-with_other owned server at (Up count) apart = owns-without_other server at owned apart
owns-with_other owned server at (Soft owner) apart =
    or-false (eqb server at) (owns (without server owned) at)
    (ne_eqb server at (λ e. apart (sym e))) ∙ owns-without_other server at owned apart
owns-with_other owned server at (Hard owner) apart =
    or-false (eqb server at) (owns (without server owned) at)
    (ne_eqb server at (λ e. apart (sym e))) ∙ owns-without_other server at owned apart

unread : ServerState
unread = record { mark = Up 0; stamp = 0 }

-- the thread that wrote the server owns what its marks then say
pub owned-own : (servers : List ServerState) (owned : List ℕ) (server number : ℕ)
    (now : ServerState) → server < length servers
    → NamesOnly number now.mark
    → ((at : ℕ) → owns owned at ≡ is_marked_by (Some number) (server_at servers at).mark)
    → (at : ℕ) → owns (owned_with owned server now.mark) at
    ≡ is_marked_by (Some number) (server_at (set servers server now) at).mark
owned-own servers owned server number now inside only each at =
    ⊎_elim
    (λ (same : at ≡ server).
    let here : server_at (set servers server now) at ≡ now =
    rw same (get_or-set_same servers server now (record { mark = Up 0; stamp = 0 }) inside) in
    ap (λ it. owns (owned_with owned server now.mark) it) same
    ∙ owns-with_same owned server now.mark ∙ sym (marked-own now.mark number only)
    ∙ ap (λ (it : ServerState). is_marked_by (Some number) it.mark) (sym here))
    (λ (apart : at ≡ server → ⊥).
    let there : server_at (set servers server now) at ≡ server_at servers at =
    get_or-set_other servers server at now (record { mark = Up 0; stamp = 0 }) apart in
    owns-with_other owned server at now.mark apart ∙ each at
    ∙ ap (λ (it : ServerState). is_marked_by (Some number) it.mark) (sym there))
    (cases_eq at server)

-- and every other thread owns what it owned
pub owned-other : (servers : List ServerState) (owned : List ℕ) (server number : ℕ)
    (other : Option ℕ) (now : ServerState) → server < length servers
    → NamesOnly number (server_at servers server).mark → NamesOnly number now.mark
    → (other ≡ Some number → ⊥)
    → ((at : ℕ) → owns owned at ≡ is_marked_by other (server_at servers at).mark)
    → (at : ℕ) → owns owned at ≡ is_marked_by other (server_at (set servers server now) at).mark
owned-other servers owned server number other now inside was only apart each at =
    ⊎_elim
    (λ (same : at ≡ server).
    let here : server_at (set servers server now) at ≡ now =
    rw same (get_or-set_same servers server now (record { mark = Up 0; stamp = 0 }) inside) in
    each at ∙ ap (λ it. is_marked_by other (server_at servers it).mark) same
    ∙ marked-other (server_at servers server).mark number other was apart
    ∙ sym (marked-other now.mark number other only apart)
    ∙ ap (λ (it : ServerState). is_marked_by other it.mark) (sym here))
    (λ (elsewhere : at ≡ server → ⊥).
    let there : server_at (set servers server now) at ≡ server_at servers at =
    get_or-set_other servers server at now (record { mark = Up 0; stamp = 0 }) elsewhere in
    each at ∙ ap (λ (it : ServerState). is_marked_by other it.mark) (sym there))
    (cases_eq at server)
