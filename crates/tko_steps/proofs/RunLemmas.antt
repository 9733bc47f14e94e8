-- The law of every run: what holds of the world is kept by each turn.
use Rattle.std.proofs.Common.{◌≡◌, ℕ, ◌<◌, length, get_or, Some, None, refl, sym, ap, ◌∙◌, arith}
use Rattle.std.proofs.lemmas.List.Sums.{sum_by-le-sum_by}
use Rattle.tko_model.specs.declared.mark.Op.{Op}
use Rattle.tko_model.specs.Settings.{Settings}
use Rattle.tko_model.specs.Ranges.{IsWithinRanges}
use Rattle.tko_model.specs.Tracker.{server_at}
use Rattle.tko_steps.specs.declared.phase.Phase.TheVariants.{Start}
use Rattle.tko_steps.specs.declared.phase.ThreadState.{ThreadState}
use Rattle.tko_steps.specs.declared.phase.ThreadState.TheVariants.{NotEnrolled, Idle, InCall}
use Rattle.tko_steps.specs.Runs.{Turn, InEveryRun, World, happens, start_world}
use Rattle.tko_steps.specs.Core.{CoreState, abstract_of, drawn_number, opened_core, thread_at}
use Rattle.tko_steps.specs.Owners.{names}
use Rattle.tko_steps.specs.Steps.{begun_by}
use Rattle.tko_steps.specs.Invariant.{IsCore, holds_in, is_loose_in}
use Rattle.tko_steps.specs.Safe.{CountSlots, HasOneResponsible, OwnsItsMarks}
use Rattle.tko_steps.proofs.CountLemmas.{get_or-replicate_same, bit}
use Rattle.tko_steps.proofs.SoftMarkLemmas.{loose-le-holds}
use Rattle.tko_steps.proofs.PhaseStepLemmas.{IsCore-after_act}
use Rattle.tko_steps.proofs.BeginLemmas.{IsCore-after_begin, IsCore-after_enrol, IsCore-opened_core}
use Rattle.tko_steps.proofs.OwnLemmas.{AreOwned, AreOwned-act, AreOwned-begun, AreOwned-enrolled}
use Rattle.tko_steps.proofs.OwnedLemmas.{names-none, names-true, true-names}
use Rattle.tko_steps.proofs.ThreadLemmas.{number-inside, number-once}
use Rattle.tko_steps.proofs.AlongLemmas.{along-turn, along-turns}
use Rattle.tko_steps.proofs.WiringLemmas.{begun}

-- what holds of the world in each run
pub record Holds (s : Settings) (w : World) : Type 0 where
  pub core : IsCore w.core
  pub settings : w.core.settings ≡ s
  pub owned : AreOwned w.past (abstract_of w.core) w.core.threads

pub Holds-start : (s : Settings) → IsWithinRanges s → Holds s (start_world s)
Holds-start s ranges =
    record {
      core = IsCore-opened_core s ranges;
      settings = refl;
      owned = λ thread server.
          let none : drawn_number (thread_at (opened_core s) thread) ≡ None = ap drawn_number (get_or-replicate_same s.threads thread NotEnrolled) in
          let mark = (server_at (abstract_of (opened_core s)) server).mark in
          sym (ap (names mark) none ∙ names-none mark);
    }

pub Holds-begun : (s : Settings) (w : World) (thread number : ℕ) (op : Op) (server : ℕ) → Holds s w
    → thread < length w.core.threads → thread_at w.core thread ≡ Idle number → server < length (abstract_of w.core)
    → Holds s (begun w thread op server)
Holds-begun s w thread number op server holds inside stands on_server =
    let new : ThreadState = InCall (begun_by number op server) Start in
    rw stands (record {
      core = IsCore-after_begin w.core thread number op server holds.core inside stands on_server;
      settings = holds.settings;
      owned = AreOwned-begun w.core w.past thread number new inside stands refl holds.owned;
    })

pub Holds-turn : (s : Settings) (w : World) (turn : Turn) → Holds s w → Holds s (happens w turn)
Holds-turn s w turn holds =
    along-turn (λ it at. Unit {0}) Holds
    (λ it at thread number op server none inside stands on_server all. Holds-begun it at thread number op server all inside stands on_server)
    (λ it at thread none inside stands all. record {
      core = IsCore-after_enrol at.core thread all.core inside stands;
      settings = all.settings;
      owned = AreOwned-enrolled at.core at.past thread all.core inside stands all.owned;
    })
    (λ it at thread call phase none inside stands all. record {
      core = IsCore-after_act at.core thread call all.core inside phase stands;
      settings = all.settings;
      owned = AreOwned-act at.core at.past thread call all.core inside all.owned phase stands;
    })
    s w turn tt holds

pub Holds-run : InEveryRun Holds
Holds-run s ranges turns = along-turns Holds Holds-turn s (start_world s) turns (Holds-start s ranges)

pub CountSlots-core : (core : CoreState) → IsCore core → CountSlots core
CountSlots-core core is group below =
    let s = core.settings in
    let mine = is.counts group below in
    let le = sum_by-le-sum_by (λ it. bit (is_loose_in s group it)) (λ it. bit (holds_in s group it)) core.threads (loose-le-holds s group) in
    record {
      settled = omega (arith, mine.firm);
      marked = omega (arith, mine.firm, mine.held, le);
      limit = mine.room;
      held = sym mine.held;
      loose = mine.firm;
    }

pub OwnsItsMarks-world : (w : World) → AreOwned w.past (abstract_of w.core) w.core.threads → OwnsItsMarks w
OwnsItsMarks-world w owned thread server =
    let mark = (server_at (abstract_of w.core) server).mark in
    let found = drawn_number (thread_at w.core thread) in (
      λ has.
          let named = names-true mark found (sym (owned thread server) ∙ has) in
          record { number = named.0; enrolled = named.1; marked = named.2 },
      λ responsible. owned thread server ∙ true-names mark found responsible.number responsible.enrolled responsible.marked,
    )

pub HasOneResponsible-core : (core : CoreState) → IsCore core → HasOneResponsible core
HasOneResponsible-core core is server one other mine theirs =
    let same : Some mine.number ≡ Some theirs.number = sym mine.marked ∙ theirs.marked in
    let number : theirs.number ≡ mine.number = cc in
    let drawn : drawn_number (get_or core.threads other NotEnrolled) ≡ Some mine.number = theirs.enrolled ∙ ap Some number in
    sym (number-once core.threads core.shared.enrolled one other mine.number is.numbers
    (number-inside core.threads one mine.number mine.enrolled) (number-inside core.threads other mine.number drawn) mine.enrolled drawn)
