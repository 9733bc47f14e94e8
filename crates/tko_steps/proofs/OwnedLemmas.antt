-- What one thread owns, whatever the relation by which it owned it: the servers whose marks name it, after its own steps
-- and after those of others.
use Rattle.std.proofs.Common.{◌≡◌, ℕ, ◌<◌, Bool, true, false, cond, eqb, List, length, set, Option, Some, None, refl, sym, ap, ◌∙◌, ⊎_elim, get_or-set_same, get_or-set_other}
use Rattle.std.proofs.lemmas.Bool.{cases_eq, cond-false, cond-true, eq-eqb, eqb-true, ne_eqb}
use Rattle.tko_model.specs.declared.mark.Mark.{Mark}
use Rattle.tko_model.specs.declared.mark.Mark.TheVariants.{Up, Soft, Hard}
use Rattle.tko_model.specs.declared.mark.Reply.{Reply}
use Rattle.tko_model.specs.Settings.{Settings}
use Rattle.tko_model.specs.declared.state.ServerState.{ServerState}
use Rattle.tko_model.specs.Tracker.{server_at}
use Rattle.tko_steps.specs.declared.phase.Call.{Call}
use Rattle.tko_steps.specs.declared.phase.Phase.{Phase}
use Rattle.tko_steps.specs.declared.phase.Phase.TheVariants.{Start, Read, AtThreshold, Limit, Reserving, Holding, Firming, Losing, Loosening, Loosened, Emptied}
use Rattle.tko_steps.specs.declared.phase.ThreadState.TheVariants.{InCall}
use Rattle.tko_steps.specs.declared.step.Word.{Word}
use Rattle.tko_steps.specs.declared.step.Word.TheVariants as word
use Rattle.tko_steps.specs.Core.{Shared, shared_after, word_at}
use Rattle.tko_steps.specs.Owners.{owner_of, IsOwnedBy, names}
use Rattle.tko_steps.specs.Invariant.{IsThread}
use Rattle.tko_steps.specs.Steps.{kind_of_exchange, owned_after, owns_after, place_of}
use Rattle.tko_steps.specs.Table.{action_of, same_server}
use Rattle.tko_steps.proofs.CountLemmas.{unread}
use Rattle.tko_steps.proofs.KnownLemmas.{IsFreeFor}
use Rattle.tko_steps.proofs.PhaseLemmas.{free-found, free-fresh, owners-written, written}
use Rattle.tko_steps.proofs.TableLemmas.{same_server-true}
use Rattle.tko_steps.proofs.TryLemmas.{by_exchange}

-- a mark that names this number or none doesn't name another
names-other : (mark : Mark) (number : ℕ) (found : Option ℕ) → ((other : ℕ) → owner_of mark ≡ Some other → other ≡ number)
    → (found ≡ Some number → ⊥) → names mark found ≡ false
names-other (Up count) number found owned apart = refl
names-other (Soft owner) number None owned apart = refl
names-other (Soft owner) number (Some at) owned apart =
    ne_eqb owner at (λ same. apart (ap Some (sym same ∙ owned owner refl)))
names-other (Hard owner) number None owned apart = refl
names-other (Hard owner) number (Some at) owned apart =
    ne_eqb owner at (λ same. apart (ap Some (sym same ∙ owned owner refl)))

pub names-none : (mark : Mark) → names mark None ≡ false
names-none (Up count) = refl
names-none (Soft owner) = refl
names-none (Hard owner) = refl

pub names-true : (mark : Mark) (found : Option ℕ) → names mark found ≡ true
    → (number : ℕ) × (found ≡ Some number) × (owner_of mark ≡ Some number)
names-true (Up count) found e = cc
names-true (Soft owner) None e = cc
names-true (Soft owner) (Some number) e = (number, refl, ap Some (eqb-true owner number e))
names-true (Hard owner) None e = cc
names-true (Hard owner) (Some number) e = (number, refl, ap Some (eqb-true owner number e))

pub true-names : (mark : Mark) (found : Option ℕ) (number : ℕ) → found ≡ Some number → owner_of mark ≡ Some number
    → names mark found ≡ true
true-names (Up count) found number drawn owned = cc
true-names (Soft owner) found number drawn owned = rw drawn (eq-eqb owner number cc)
true-names (Hard owner) found number drawn owned = rw drawn (eq-eqb owner number cc)

-- what a won exchange of the thread with this number leaves it to own
owns_after-names : (old new : Mark) (stamp number : ℕ) → ((other : ℕ) → owner_of new ≡ Some other → other ≡ number)
    → owns_after (kind_of_exchange old new) true (word.Server (record { mark = new; stamp = stamp })) (names old (Some number))
    ≡ names new (Some number)
owns_after-names (Up a) (Up b) stamp number owned = refl
owns_after-names (Up a) (Soft b) stamp number owned = sym (eq-eqb b number (owned b refl))
owns_after-names (Up a) (Hard b) stamp number owned = sym (eq-eqb b number (owned b refl))
owns_after-names (Soft a) (Up b) stamp number owned = refl
owns_after-names (Soft a) (Soft b) stamp number owned = sym (eq-eqb b number (owned b refl))
owns_after-names (Soft a) (Hard b) stamp number owned = sym (eq-eqb b number (owned b refl))
owns_after-names (Hard a) (Up b) stamp number owned = refl
owns_after-names (Hard a) (Soft b) stamp number owned = sym (eq-eqb b number (owned b refl))
owns_after-names (Hard a) (Hard b) stamp number owned = sym (eq-eqb b number (owned b refl))

-- a lost exchange leaves what is owned
pub owns_after-lost : (old new : Mark) (left : Word) (owned : Bool) → owns_after (kind_of_exchange old new) false left owned ≡ owned
owns_after-lost old new left owned = by_exchange (λ it. owns_after it false left owned ≡ owned) refl refl refl old new

-- ---- one thread, whatever it owned before

pub cond_same : {X : Type 0} (test : Bool) (x y : X) → y ≡ x → cond test y x ≡ x
cond_same true x y e = e
cond_same false x y e = refl

-- a change of a server that names this number or none, to such a mark, is none of a thread with another number
others-write : (servers : List ServerState) (server number : ℕ) (new : ServerState) (other : Option ℕ) (owned : ℕ → Bool)
    → server < length servers → IsFreeFor number (server_at servers server)
    → ((at : ℕ) → owner_of new.mark ≡ Some at → at ≡ number) → (other ≡ Some number → ⊥)
    → IsOwnedBy servers other owned → IsOwnedBy (set servers server new) other owned
others-write servers server number new other owned inside free mine apart is at =
    ⊎_elim
    (λ (here : at ≡ server).
    let now : server_at (set servers server new) at ≡ new = rw here (get_or-set_same servers server new unread inside) in
    let was : owned at ≡ names (server_at servers server).mark other = is at ∙ ap (λ it. names (server_at servers it).mark other) here in
    was ∙ names-other (server_at servers server).mark number other free apart
    ∙ sym (ap (λ (it : ServerState). names it.mark other) now ∙ names-other new.mark number other mine apart))
    (λ (elsewhere : at ≡ server → ⊥).
    is at ∙ sym (ap (λ (it : ServerState). names it.mark other) (get_or-set_other servers server at new unread elsewhere)))
    (cases_eq at server)

-- an exchange of the thread with this number, by whether it is won
module _ (servers : List ServerState) (server number : ℕ) (found : ServerState) (mark : Mark) (inside : server < length servers)
    (mine : (at : ℕ) → owner_of mark ≡ Some at → at ≡ number) where
  abbrev now : ServerState
  now = server_at servers server

  abbrev left : Bool → List ServerState
  left won = cond won (set servers server (written found mark)) servers

  others-exchange : (won : Bool) (other : Option ℕ) (owned : ℕ → Bool) → (won ≡ true → IsFreeFor number now) → (other ≡ Some number → ⊥)
      → IsOwnedBy servers other owned → IsOwnedBy (left won) other owned
  others-exchange true other owned free apart is =
      others-write servers server number (written found mark) other owned inside (free refl) mine apart is
  others-exchange false other owned free apart is = is

  abbrev owned_next : Bool → (ℕ → Bool) → ℕ → Bool
  owned_next won owned at =
      cond (eqb server at) (owns_after (kind_of_exchange found.mark mark) won (word.Server (cond won (written found mark) now)) (owned at)) (owned at)

  own-exchange : (won : Bool) (owned : ℕ → Bool) → (won ≡ true → now ≡ found) → IsOwnedBy servers (Some number) owned
      → IsOwnedBy (left won) (Some number) (owned_next won owned)
  own-exchange false owned same is at =
      cond_same (eqb server at) (owned at) _ (owns_after-lost found.mark mark (word.Server now) (owned at)) ∙ is at
  own-exchange true owned same is at =
      let new = written found mark in
      let next = owns_after (kind_of_exchange found.mark mark) true (word.Server new) (owned at) in
      ⊎_elim
      (λ (here : at ≡ server).
      let there : server_at (set servers server new) at ≡ new = rw here (get_or-set_same servers server new unread inside) in
      let was : owned at ≡ names found.mark (Some number) =
      is at ∙ ap (λ it. names (server_at servers it).mark (Some number)) here ∙ ap (λ (it : ServerState). names it.mark (Some number)) (same refl) in
      cond-true (eqb server at) next (owned at) (eq-eqb server at (sym here))
      ∙ ap (owns_after (kind_of_exchange found.mark mark) true (word.Server new)) was
      ∙ owns_after-names found.mark mark new.stamp number mine
      ∙ sym (ap (λ (it : ServerState). names it.mark (Some number)) there))
      (λ (elsewhere : at ≡ server → ⊥).
      cond-false (eqb server at) next (owned at) (ne_eqb server at (λ e. elsewhere (sym e)))
      ∙ is at ∙ sym (ap (λ (it : ServerState). names it.mark (Some number)) (get_or-set_other servers server at new unread elsewhere)))
      (cases_eq at server)

-- ---- the step of a call

module _ (s : Settings) (shared : Shared) (call : Call) where
  abbrev found_at : Phase → Word
  found_at phase = word_at shared (place_of s call.server (action_of call.number phase))

  abbrev servers_then : Phase → List ServerState
  servers_then phase = (shared_after s shared call.server (action_of call.number phase)).servers

  abbrev at_server : ServerState
  at_server = server_at shared.servers call.server

  loosened-free : (found : ServerState) (mark : Mark) (answer : Reply) → IsThread s shared.servers (InCall call (Loosened found mark answer))
      → IsFreeFor call.number at_server
  loosened-free found mark answer knows =
      let here : at_server.mark ≡ Soft call.number = ap (λ (it : ServerState). it.mark) knows.2.2 ∙ knows.2.1 in
      λ other theirs. (let both : Some call.number ≡ Some other = sym (ap owner_of here) ∙ theirs in let e : call.number ≡ other = cc in sym e)

  holding-free : (found : ServerState) → IsThread s shared.servers (InCall call (Holding found)) → at_server ≡ found → IsFreeFor call.number at_server
  holding-free found knows same =
      (free-fresh call.number at_server.mark (ap (λ (it : ServerState). owner_of it.mark) same ∙ knows.2.0)).0

  own-mark : (at : ℕ) → owner_of (Soft call.number) ≡ Some at → at ≡ call.number
  own-mark at e = let both : call.number ≡ at = cc in sym both

  -- a thread with another number owns what it owned
  pub others-step : (phase : Phase) → IsThread s shared.servers (InCall call phase) → (other : Option ℕ) (owned : ℕ → Bool)
      → (other ≡ Some call.number → ⊥) → IsOwnedBy shared.servers other owned → IsOwnedBy (servers_then phase) other owned
  others-step Start knows other owned apart is = is
  others-step (Read found mark answer) knows other owned apart is =
      others-exchange shared.servers call.server call.number found mark knows.0 (owners-written call.number mark knows.2.0.own)
      (same_server at_server found) other owned
      (λ won. (free-found call.number at_server found found.mark refl (same_server-true at_server found won) knows.2.1).0) apart is
  others-step (AtThreshold found) knows other owned apart is = is
  others-step (Limit found) knows other owned apart is = is
  others-step (Reserving found slots) knows other owned apart is = is
  others-step (Holding found) knows other owned apart is =
      others-exchange shared.servers call.server call.number found (Soft call.number) knows.0 own-mark
      (same_server at_server found) other owned (λ won. holding-free found knows (same_server-true at_server found won)) apart is
  others-step Firming knows other owned apart is = is
  others-step Losing knows other owned apart is = is
  others-step (Loosening found mark answer) knows other owned apart is = is
  others-step (Loosened found mark answer) knows other owned apart is =
      others-exchange shared.servers call.server call.number found mark knows.0 (owners-written call.number mark knows.2.0.own)
      (same_server at_server found) other owned (λ won. loosened-free found mark answer knows) apart is
  others-step (Emptied answer) knows other owned apart is = is

  -- the thread of the call owns what its step leaves it
  pub own-step : (phase : Phase) → IsThread s shared.servers (InCall call phase) → (owned : ℕ → Bool)
      → IsOwnedBy shared.servers (Some call.number) owned
      → IsOwnedBy (servers_then phase) (Some call.number) (owned_after s call phase (found_at phase) owned)
  own-step Start knows owned is = λ at. cond_same (eqb call.server at) (owned at) (owned at) refl ∙ is at
  own-step (Read found mark answer) knows owned is =
      own-exchange shared.servers call.server call.number found mark knows.0 (owners-written call.number mark knows.2.0.own)
      (same_server at_server found) owned (same_server-true at_server found) is
  own-step (AtThreshold found) knows owned is = is
  own-step (Limit found) knows owned is = λ at. cond_same (eqb call.server at) (owned at) (owned at) refl ∙ is at
  own-step (Reserving found slots) knows owned is = is
  own-step (Holding found) knows owned is =
      own-exchange shared.servers call.server call.number found (Soft call.number) knows.0 own-mark
      (same_server at_server found) owned (same_server-true at_server found) is
  own-step Firming knows owned is = is
  own-step Losing knows owned is = is
  own-step (Loosening found mark answer) knows owned is = is
  own-step (Loosened found mark answer) knows owned is =
      own-exchange shared.servers call.server call.number found mark knows.0 (owners-written call.number mark knows.2.0.own)
      (same_server at_server found) owned (same_server-true at_server found) is
  own-step (Emptied answer) knows owned is = is

names-false : (mark : Mark) (number : ℕ) → (owner_of mark ≡ Some number → ⊥) → names mark (Some number) ≡ false
names-false (Up count) number apart = refl
names-false (Soft owner) number apart = ne_eqb owner number (λ e. apart (ap Some e))
names-false (Hard owner) number apart = ne_eqb owner number (λ e. apart (ap Some e))

-- no mark names a thread that draws its number only now
pub own-enrol : (servers : List ServerState) (number : ℕ) (owned : ℕ → Bool)
    → ((server : ℕ) → owner_of (server_at servers server).mark ≡ Some number → ⊥)
    → IsOwnedBy servers None owned → IsOwnedBy servers (Some number) owned
own-enrol servers number owned fresh is server =
    let mark = (server_at servers server).mark in
    is server ∙ names-none mark ∙ sym (names-false mark number (fresh server))
