-- What an atomic step of each kind claims of the word that it is on, and of all words after it.
use Rattle.std.proofs.Common.{◌≡◌, ℕ, ◌+◌, ◌<◌, Bool, true, false, cond, eqb, Some, inl}
use Rattle.std.proofs.Common.{inr, refl, sym, ap, ◌∙◌, subst, arith}
use Rattle.std.specs.Prelude.{◌&&◌}
use Rattle.std.proofs.lemmas.Bool.{eq-eqb, ne_eqb}
use Rattle.tko_model.specs.declared.mark.Mark.{Mark}
use Rattle.tko_model.specs.Settings.{Settings}
use Rattle.tko_model.specs.declared.state.ServerState.{ServerState}
use Rattle.tko_model.specs.Tracker.{server_at}
use Rattle.tko_runs.specs.States.{HasPlace, servers_written, written_slots, wrote}
use Rattle.tko_runs.specs.Words.{CanLeave, CanLeaveServer, CanMark, IsValid, IsWonExchange, room_at}
use Rattle.tko_steps.specs.declared.phase.Slots.{Slots}
use Rattle.tko_steps.specs.declared.step.Place.{Place}
use Rattle.tko_steps.specs.declared.step.Place.TheVariants as place
use Rattle.tko_steps.specs.declared.step.Word.{Word}
use Rattle.tko_steps.specs.declared.step.Word.TheVariants as word
use Rattle.tko_steps.specs.declared.table.Action.{Action}
use Rattle.tko_steps.specs.declared.table.Action.TheVariants.{LookAtServer, LookAtSlots, Exchange}
use Rattle.tko_steps.specs.declared.table.Action.TheVariants.{Reserve, Settle, Loosen, Give}
use Rattle.tko_steps.specs.Core.{Shared, is_call_step, seen_by, shared_after, word_at}
use Rattle.tko_steps.specs.Owners.{owner_of}
use Rattle.tko_steps.specs.Core.{slots_at}
use Rattle.tko_steps.specs.StepNeeds.{CanAct, IsPlace}
use Rattle.tko_steps.specs.Steps.{is_done, kind_of_exchange, place_of, step_kind, word_after}
use Rattle.tko_steps.specs.Table.{same_mark, same_server, same_slots}
use Rattle.tko_steps.proofs.StepLemmas.{on_one_word}
use Rattle.tko_steps.proofs.TableLemmas.{eq-same_server, same_server-true, same_slots-true}
use Rattle.tko_model.specs.Groups.{group_of, limit_at}
use Rattle.tko_runs.proofs.ExchangeLemmas.{exchange-lost, exchange-steps, exchange-won}
use Rattle.tko_runs.proofs.ExchangeLemmas.{exchange-wrote}

-- what a step claims of the word that it finds and the one that it leaves
pub record Acts (s : Settings) (shared : Shared) (server : ℕ) (act : Action) : Type 0 where
  pub wins : wrote (step_kind act) (word_at shared (place_of s server act))
      (word_after act (word_at shared (place_of s server act)))
      ≡ is_done (seen_by s shared server act)
  pub can : CanLeave s (room_at s shared.slots (place_of s server act)) (step_kind act)
      (word_at shared (place_of s server act))
      (word_after act (word_at shared (place_of s server act)))

-- What each action claims of where it steps, and of all words after it.

pub call-step : (act : Action) → is_call_step (step_kind act) ≡ true
call-step LookAtServer = refl
call-step LookAtSlots = refl
call-step (Exchange found mark) = exchange-steps found.mark mark
call-step (Reserve slots) = refl
call-step Settle = refl
call-step Loosen = refl
call-step Give = refl

pub has-place : (shared : Shared) (at : Place) → IsPlace shared at → HasPlace shared at
has-place shared (place.Server server) there = (there, tt)
has-place shared (place.Soft group) there = (tt, there)
has-place shared place.Enrolment there = (tt, tt)

abbrev words_written : Shared → Place → Word → Shared
words_written shared at left = record {
  servers = servers_written shared.servers at left;
  slots = written_slots shared.slots at left;
  enrolled = shared.enrolled;
}

-- the words after a step are those before it with the word that it leaves in its place
pub words-left : (s : Settings) (shared : Shared) (server : ℕ) (act : Action)
    → words_written shared (place_of s server act)
    (word_after act (word_at shared (place_of s server act)))
    ≡ shared_after s shared server act
words-left s shared server LookAtServer = sym (on_one_word s shared server LookAtServer)
words-left s shared server LookAtSlots = sym (on_one_word s shared server LookAtSlots)
words-left s shared server (Exchange found mark) =
    sym (on_one_word s shared server (Exchange found mark))
words-left s shared server (Reserve slots) = sym (on_one_word s shared server (Reserve slots))
words-left s shared server Settle = sym (on_one_word s shared server Settle)
words-left s shared server Loosen = sym (on_one_word s shared server Loosen)
words-left s shared server Give = sym (on_one_word s shared server Give)

-- Changes of the soft word.

pub Acts-settle : (s : Settings) (shared : Shared) (server : ℕ) → CanAct s shared server Settle
    → Acts s shared server Settle
Acts-settle s shared server can =
    let held = can.1.0 in
    record { wins = refl; can = inl (record { firm = refl; held = omega (arith, held) }) }

pub Acts-loosen : (s : Settings) (shared : Shared) (server : ℕ) → CanAct s shared server Loosen
    → Acts s shared server Loosen
Acts-loosen s shared server can =
    let firm = can.1.0 in
    record { wins = refl; can = inr (record { firm = omega (arith, firm); held = refl }) }

pub Acts-give : (s : Settings) (shared : Shared) (server : ℕ) → CanAct s shared server Give
    → Acts s shared server Give
Acts-give s shared server can =
    let held = can.1 in
    record { wins = refl; can = record { firm = refl; held = omega (arith, held) } }

and-false : (one : Bool) → (one && false) ≡ false
and-false true = refl
and-false false = refl

next-apart : (n : ℕ) → eqb (n + 1) n ≡ false
next-apart n = ne_eqb (n + 1) n (λ e. omega arith)

pub Acts-reserve : (s : Settings) (shared : Shared) (server : ℕ) (expected : Slots) (test : Bool)
    → same_slots (slots_at shared.slots (group_of s server)) expected ≡ test
    → expected.firm + expected.held < limit_at s server → Acts s shared server (Reserve expected)
Acts-reserve s shared server expected true same room =
    let slots = slots_at shared.slots (group_of s server) in
    let is = same_slots-true slots expected same in
    record {
      wins = rw (same, next-apart slots.held, and-false) refl;
      can = rw same (inr (record {
        firm = refl;
        held = refl;
        room = omega (arith, is.0, is.1, room);
      }));
    }
Acts-reserve s shared server expected false same room =
    let slots = slots_at shared.slots (group_of s server) in
    record {
      wins = rw (same, eq-eqb slots.firm slots.firm refl, eq-eqb slots.held slots.held refl) refl;
      can = rw same (inl refl);
    }

-- Exchanges of a server's word.

module _ (s : Settings) (shared : Shared) (server : ℕ) (found : ServerState) (mark : Mark) where
  abbrev now : ServerState
  now = server_at shared.servers server

  abbrev held : ℕ
  held = (slots_at shared.slots (group_of s server)).held

  abbrev new : ServerState
  new = record { mark = mark; stamp = found.stamp + 1 }

  -- it wrote where it leaves another word
  wrote-is : (left : ServerState) (same : Bool) → same_server left now ≡ same
      → wrote (kind_of_exchange found.mark mark) (word.Server now) (word.Server left)
      ≡ cond same false true
  wrote-is left same is =
      exchange-wrote found.mark mark (word.Server now) (word.Server left)
      ∙ ap (λ t. cond t false true) is

  Acts-won : same_server now found ≡ true
      → CanMark s held (kind_of_exchange found.mark mark) found.mark mark → IsValid s new
      → Acts s shared server (Exchange found mark)
  Acts-won won can valid =
      let is : now ≡ found = same_server-true now found won in
      let apart : same_server new now ≡ false =
      rw is (ap (λ t. same_mark mark found.mark && t) (next-apart found.stamp)
      ∙ and-false (same_mark mark found.mark)) in
      let wins = wrote-is new false apart in
      let exchange : IsWonExchange s held (kind_of_exchange found.mark mark) found new = record {
        mark = can;
        stamp = refl;
        valid = valid;
      } in
      let C : ServerState → Type 0 = λ it. CanLeaveServer s held
      (kind_of_exchange found.mark mark) it new in
      let leaves : CanLeaveServer s held (kind_of_exchange found.mark mark) now new =
      subst C (sym is) (exchange-won s held found.mark mark found new exchange) in
      record { wins = rw won wins; can = rw won leaves }

  Acts-lost : same_server now found ≡ false
      → ((owner : ℕ) → owner_of found.mark ≡ Some owner → ⊥)
      → Acts s shared server (Exchange found mark)
  Acts-lost lost none =
      let wins = wrote-is now true (eq-same_server now now refl) in
      record { wins = rw lost wins; can = rw lost (exchange-lost s held found.mark mark now none) }

  either : (test : Bool) → same_server now found ≡ test
      → ((owner : ℕ) → owner_of found.mark ≡ Some owner → now ≡ found)
      → CanMark s held (kind_of_exchange found.mark mark) found.mark mark → IsValid s new
      → Acts s shared server (Exchange found mark)
  either true won stands can valid = Acts-won won can valid
  either false lost stands can valid =
      Acts-lost lost (λ owner owned.
      let same : same_server now found ≡ true = eq-same_server now found (stands owner owned) in cc)

  pub Acts-exchange : ((owner : ℕ) → owner_of found.mark ≡ Some owner → now ≡ found)
      → CanMark s held (kind_of_exchange found.mark mark) found.mark mark → IsValid s new
      → Acts s shared server (Exchange found mark)
  Acts-exchange stands can valid = either (same_server now found) refl stands can valid
