-- The time of a client that is looked at now and then.
use Rattle.std.specs.Prelude.{◌≡◌, ◌-◌, ◌==◌, ◌&&◌, not, nat_lt, if◌then◌else◌, ℕ, Bool, true, false, None, min}
use Rattle.tko_pace.specs.declared.client_time.ClientTime.{ClientTime}
use Rattle.tko_pace.specs.declared.client_time.ClientProgress.{ClientProgress}
use Rattle.tko_pace.specs.declared.client_time.Verdict.{Verdict}
use Rattle.tko_pace.specs.declared.client_time.Verdict.TheVariants.{Slow}
use Rattle.tko_pace.specs.declared.pace.Pace.{Pace}
use Rattle.tko_pace.specs.Pacing.{IsSlow, paced, span_delayed, taken}
use Rattle.tko_pace.specs.Silence.{is_over}

-- it could have sent a request since the last look, and completed none: nothing was answered, no
-- request is under way, and no replies wait
abbrev pub is_quiet : ClientProgress → ClientTime → Bool
is_quiet it time =
    time.requests == it.requests && (not it.is_asking && it.waiting == 0)

-- how many of the bytes that waited at the last look it took since
abbrev pub taken_since : ClientProgress → ClientTime → ℕ
taken_since it time = min (it.taken - time.taken) time.waiting

-- its pace once it took them
abbrev pub pace_taken : ClientProgress → ClientTime → Pace
pace_taken it time = record time.pace {
  span = if taken_since it time == time.waiting then None
      else taken (taken_since it time) time.pace.span;
}

-- while a request of it is under way no replies are offered to it, and the time since the last look
-- does not count
abbrev pub pace_after : ℕ → ClientProgress → ClientTime → Pace
pace_after now it time =
    if it.is_asking then record (pace_taken it time) {
      span = span_delayed (now - time.looked) (pace_taken it time).span;
    }
    else pace_taken it time

-- it must take replies: some wait and are offered to it, and it has a limit for them
abbrev pub must_take : ClientProgress → ClientTime → Bool
must_take it time = nat_lt 0 it.waiting && (not it.is_asking && nat_lt 0 time.pace.limit)

-- it has no time left to complete a request
pub record IsSilentAt (idle now : ℕ) (it : ClientProgress) (time : ClientTime) : Type 0 where
  pub quiet : is_quiet it time ≡ true
  pub over : is_over idle time.since now ≡ true

-- it took too little of its replies
pub record IsSlowAt (now : ℕ) (it : ClientProgress) (time : ClientTime) : Type 0 where
  pub must : must_take it time ≡ true
  pub slow : IsSlow (pace_after now it time) now

-- its pace after a look that found it in time or not
abbrev pub pace_at : Bool → ℕ → ClientProgress → ClientTime → Pace
pace_at is_in_time now it time =
    if must_take it time && is_in_time then paced (pace_after now it time) now
    else pace_after now it time

-- what is known after a look that found it in time or not
abbrev pub after_time_look : Bool → ℕ → ClientProgress → ClientTime → ClientTime
after_time_look is_in_time now it time = record {
  looked = now;
  requests = it.requests;
  since = if is_quiet it time then time.since else now;
  taken = it.taken;
  waiting = it.waiting;
  pace = pace_at is_in_time now it time;
}

-- whether a verdict is that it took its replies in time
abbrev pub is_in_time : Verdict → Bool
is_in_time Slow = false
is_in_time _ = true
