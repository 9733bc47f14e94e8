-- What holds of the core is kept by begins and enrolments, and holds where it opens.
use Rattle.std.proofs.Common.{◌≡◌, ℕ, ◌+◌, ◌<◌, length, replicate, refl, sym, ap, ◌∙◌, arith, length-set}
use Rattle.std.proofs.lemmas.Bool.{le-ltb}
use Rattle.std.proofs.lemmas.List.{length-replicate}
use Rattle.std.proofs.lemmas.List.Elements.{All-replicate, All-set}
use Rattle.tko_model.specs.declared.mark.Mark.TheVariants.{Up}
use Rattle.tko_model.specs.declared.mark.Op.{Op}
use Rattle.tko_model.specs.Settings.{Settings}
use Rattle.tko_model.specs.declared.state.ServerState.{ServerState}
use Rattle.tko_model.specs.Ranges.{IsWithinRanges}
use Rattle.tko_model.specs.Groups.{group_of, groups}
use Rattle.tko_model.specs.Tracker.{IsFit}
use Rattle.tko_model.proofs.GroupLemmas.{softs_in-replicate}
use Rattle.tko_steps.specs.declared.phase.Phase.TheVariants.{Start}
use Rattle.tko_steps.specs.declared.phase.Slots.{Slots}
use Rattle.tko_steps.specs.declared.phase.ThreadState.{ThreadState}
use Rattle.tko_steps.specs.declared.phase.ThreadState.TheVariants.{NotEnrolled, Idle, InCall}
use Rattle.tko_steps.specs.Core.{CoreState, abstract_of, after_enrol, no_slots, opened_core, slots_at, thread_at, with_thread}
use Rattle.tko_steps.specs.Owners.{has_number, is_enrolled}
use Rattle.tko_steps.specs.Steps.{begun_by}
use Rattle.tko_steps.specs.Invariant.{IsCore, IsThread, holds_in, is_loose_in}
use Rattle.tko_steps.proofs.CountLemmas.{bit, counts-same, count_by-replicate, get_or-replicate_same, owner-replicate}
use Rattle.tko_steps.proofs.ThreadLemmas.{OneEach-enrol, count_by-enrol, count_by-moved}
use Rattle.tko_steps.proofs.CoreLemmas.{IsCore-slots, own-group}

pub IsCore-after_begin : (core : CoreState) (thread number : ℕ) (op : Op) (server : ℕ) → IsCore core → thread < length core.threads
    → thread_at core thread ≡ Idle number → server < length (abstract_of core)
    → IsCore (with_thread core thread (InCall (begun_by number op server) Start))
IsCore-after_begin core thread number op server is inside stands on_server =
    let group = group_of core.settings server in
    IsCore-slots core thread (Idle number) (InCall (begun_by number op server) Start) is inside stands refl (λ n. refl)
    server tt refl (slots_at core.shared.slots group) core.shared.slots (counts-same core.shared.slots group)
    (on_server, (is.settings.tries.0), tt) refl refl (own-group core server is).room

pub IsCore-after_enrol : (core : CoreState) (thread : ℕ) → IsCore core → thread < length core.threads
    → thread_at core thread ≡ NotEnrolled → IsCore (after_enrol core thread)
IsCore-after_enrol core thread is inside stands =
    let new : ThreadState = Idle core.shared.enrolled in
    record {
      settings = is.settings;
      count = is.count;
      fit = is.fit;
      threads = rw length-set is.threads;
      enrolled = count_by-enrol core.threads thread core.shared.enrolled inside stands ∙ ap (λ n. n + 1) is.enrolled;
      numbers = OneEach-enrol core.threads core.shared.enrolled thread is.numbers inside stands;
      owners = λ server number owned. omega (arith, is.owners server number owned);
      calls = All-set (IsThread core.settings (abstract_of core)) core.threads thread new tt is.calls;
      soft_words = is.soft_words;
      counts = λ group below.
          let was = is.counts group below in
          let holding = count_by-moved (holds_in core.settings group) core.threads thread NotEnrolled new inside stands in
          let loose = count_by-moved (is_loose_in core.settings group) core.threads thread NotEnrolled new inside stands in
          record {
            held = omega (arith, holding, was.held);
            firm = omega (arith, loose, was.firm);
            room = was.room;
          };
    }

pub IsCore-opened_core : (s : Settings) → IsWithinRanges s → IsCore (opened_core s)
IsCore-opened_core s ranges =
    let server : ServerState = record { mark = Up 0; stamp = s.opening_stamp } in
    record {
      settings = ranges;
      count = length-replicate s.servers server;
      fit = All-replicate (λ (state : ServerState). IsFit s state.mark state.stamp) s.servers server
          (ranges.failures.0, omega (arith, ranges.stamp));
      threads = length-replicate s.threads NotEnrolled;
      enrolled = count_by-replicate is_enrolled s.threads NotEnrolled refl;
      numbers = λ number.
          count_by-replicate (has_number number) s.threads NotEnrolled refl ∙ sym (ap bit (le-ltb number 0 (omega arith)));
      owners = λ at number owned. absurd (owner-replicate s.servers s.opening_stamp at number owned);
      calls = All-replicate (IsThread s (abstract_of (opened_core s))) s.threads NotEnrolled tt;
      soft_words = length-replicate (groups s) no_slots;
      counts = λ group below.
          let empty : slots_at (replicate (groups s) no_slots) group ≡ no_slots = get_or-replicate_same (groups s) group no_slots in
          let firm = ap (λ (it : Slots). it.firm) empty in
          let held = ap (λ (it : Slots). it.held) empty in
          record {
            held = count_by-replicate (holds_in s group) s.threads NotEnrolled refl ∙ sym held;
            firm = omega (
              arith,
              firm,
              count_by-replicate (is_loose_in s group) s.threads NotEnrolled refl,
              softs_in-replicate s group s.servers s.opening_stamp,
            );
            room = omega (arith, firm, held);
          };
    }
