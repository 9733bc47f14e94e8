-- What is printed of a schedule.
use Rattle.std.proofs.Common.{◌≡◌, ℕ, ◌<◌, ◌≤◌, Bool, true, false, cond, ltb, List, length, ◌⊎◌, inl, inr, arith, Result, Ok, Err, refl, subst}
use Rattle.std.proofs.lemmas.Bool.{ltb-false}
use Rattle.tko_runs.specs.declared.schedule.fault.ScheduleFault.{ScheduleFault}
use Rattle.tko_runs.specs.declared.schedule.fault.ScheduleFault.TheVariants as schedule_fault
use Rattle.tko_runs.specs.declared.checking.order.Point.{Point}
use Rattle.tko_runs.specs.Limits.{max_bytes}
use Rattle.tko_runs.specs.Orders.{IsOrderOf}
use Rattle.tko_runs.specs.Plays.{named_by}
use Rattle.tko_runs.specs.Prints.{run_text}
use Rattle.tko_runs.specs.Schedules.{Plan, reads}
use Rattle.tko_runs.specs.Runs.{RunData}
use Rattle.tko_commands.specs.Readings.{IsText}
use Rattle.tko_commands.specs.Replays.{IsPrintedReplay, ReplaysSchedule, most_read}

pub is_replay : (text printed : List ℕ) (plan : Plan) (run : RunData) (order : List Point)
    → reads text ≡ Ok plan → run ≡ named_by plan
    → IsOrderOf run order → printed ≡ run_text run order
    → IsPrintedReplay text printed
unfolding named_by
is_replay text printed plan run order schedule named stands prints =
    let P : RunData → Type 0 = λ (it : RunData). IsOrderOf it order in
    record {
      plan = plan;
      order = order;
      schedule = schedule;
      legal = subst P named stands;
      prints = rw named at prints;
    }

-- a text that is a schedule has a mebibyte at most
or_too_long : (test : Bool) (plan : Plan) (read : Result Plan ScheduleFault)
    → cond test (Err (schedule_fault.Line 0)) read ≡ Ok plan → test ≡ false
or_too_long true plan read e = cc
or_too_long false plan read e = refl

pub is_short : (text : List ℕ) (plan : Plan) → reads text ≡ Ok plan → length text ≤ max_bytes
unfolding reads
is_short text plan e = ltb-false max_bytes (length text) (or_too_long (ltb max_bytes (length text)) plan _ e)

-- input of which less than a limit was taken has ended
ended_before : {E : Type 0} (count most : ℕ) → E ⊎ (most ≤ count) → count < most → E
ended_before count most (inl ended) below = ended
ended_before count most (inr reached) below = absurd (omega (arith, reached, below))

-- a schedule was read to the end of the input, and what is printed of it went out
pub replays : {I O : Type 0} (gives : I → List ℕ → I → Type 0) (is_ended : I → Type 0) (takes : O → List ℕ → O → Type 0)
    (old : I) (from : O) (new : I) (to : O) (text printed : List ℕ) → IsText gives is_ended most_read old new text
    → IsPrintedReplay text printed → takes from printed to
    → ReplaysSchedule gives is_ended takes old from new to
replays gives is_ended takes old from new to text printed read replay went =
    record {
      text = text;
      printed = printed;
      came = read.came;
      ended = ended_before (length text) most_read read.whole
          (let short = is_short text replay.plan replay.schedule in omega (arith, short));
      replay = replay;
      went = went;
    }
