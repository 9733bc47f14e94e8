-- What a step that leaves this of a server does to all servers.
use Rattle.std.proofs.Common.{◌≡◌, ℕ, ◌<◌, List, length, get_or, set, Option, Some, None, refl, sym, ap, ◌∙◌, subst, get_or-set_same}
use Rattle.std.proofs.lemmas.List.{set-get_or}
use Rattle.tko_model.specs.declared.mark.Mark.{Mark}
use Rattle.tko_model.specs.declared.mark.Mark.TheVariants.{Up}
use Rattle.tko_model.specs.declared.state.ServerState.{ServerState}
use Rattle.tko_model.specs.Tracker.{changed, server_at}
use Rattle.tko_runs.specs.CheckStates.{with_change}

-- two writes of one place are the same where the values are
pub same_written : {X : Type 0} (xs : List X) (i : ℕ) (x y : X) → i < length xs → set xs i x ≡ set xs i y → x ≡ y
same_written xs i x y inside e =
    sym (get_or-set_same xs i x x inside) ∙ (ap (λ list. get_or list i x) e ∙ get_or-set_same xs i y x inside)

-- it leaves all as it was where it leaves that one as it was
pub unwritten : (servers : List ServerState) (i : ℕ) (left : ServerState) → i < length servers
    → set servers i left ≡ servers → left ≡ server_at servers i
unwritten servers i left inside e =
    let none : ServerState = record { mark = Up 0; stamp = 0 } in
    sym (get_or-set_same servers i left none inside) ∙ ap (λ list. get_or list i none) e

pub written_same : (servers : List ServerState) (i : ℕ) (left : ServerState) → left ≡ server_at servers i
    → set servers i left ≡ servers
written_same servers i left e =
    rw e (set-get_or servers i (record { mark = Up 0; stamp = 0 }))

-- a change of that one
pub changed_here : (servers : List ServerState) (i : ℕ) (change : Option Mark)
    → changed servers i change ≡ set servers i (with_change (server_at servers i) change)
changed_here servers i None = sym (set-get_or servers i (record { mark = Up 0; stamp = 0 }))
changed_here servers i (Some mark) = refl

pub changed_to : (servers : List ServerState) (on server : ℕ) (change : Option Mark) (left : ServerState) → server ≡ on
    → left ≡ with_change (server_at servers on) change → changed servers on change ≡ set servers server left
changed_to servers on server change left here e = rw (here, e) (changed_here servers on change)

pub changed_from : (servers : List ServerState) (on server : ℕ) (change : Option Mark) (left : ServerState) → server ≡ on
    → on < length servers → changed servers on change ≡ set servers server left
    → left ≡ with_change (server_at servers on) change
changed_from servers on server change left here inside e =
    let now : ServerState = with_change (server_at servers on) change in
    let P : ℕ → Type 0 = λ at. changed servers on change ≡ set servers at left in
    sym (same_written servers on now left inside (sym (changed_here servers on change) ∙ subst P here e))

-- no change
pub unchanged_to : (servers : List ServerState) (on server : ℕ) (change : Option Mark) (left : ServerState) → change ≡ None
    → left ≡ server_at servers server → changed servers on change ≡ set servers server left
unchanged_to servers on server change left none e = rw none (sym (written_same servers server left e))

pub unchanged_from : (servers : List ServerState) (on server : ℕ) (change : Option Mark) (left : ServerState) → change ≡ None
    → server < length servers → changed servers on change ≡ set servers server left → left ≡ server_at servers server
unchanged_from servers on server change left none inside e =
    unwritten servers server left inside (sym (rw none at e))
