-- The time of an exchange that goes on.
use Rattle.std.proofs.Common.{◌≡◌, ◌≤◌, ◌<◌, ◌+◌, ◌^◌, ◌-◌, ℕ, min, refl, ap, arith, ◌∙◌}
use Rattle.tko_pace.specs.declared.running.RunningTime.{RunningTime}
use Rattle.tko_pace.specs.Running.{ran_to}
use Rattle.tko_tcp.specs.declared.progress.Progress.{Progress}
use Rattle.tko_tcp.specs.declared.exchange_time.ExchangeTime.{ExchangeTime}
use Rattle.tko_tcp.specs.ExchangeTimes.{IsLater, looked_progress}

pub later_same : (time : ExchangeTime) → IsLater time time
later_same time =
    record {
      begun = refl;
      limit = refl;
      running = refl;
      ran = omega arith;
      progress = λ missing. refl;
    }

pub later_still : {old mid new : ExchangeTime} → IsLater old mid → IsLater mid new → IsLater old new
later_still {old} {mid} {new} first second =
    let before = first.ran in
    let after = second.ran in
    record {
      begun = second.begun ∙ first.begun;
      limit = second.limit ∙ first.limit;
      running = second.running ∙ first.running;
      ran = omega arith;
      progress = λ missing. second.progress (rw (first.progress missing) missing) ∙ first.progress missing;
    }

pub no_less : (before more : ℕ) → before < 2 ^ 64 → before ≤ min (before + more) (2 ^ 64 - 1)
no_less before more within = grind arith

pub progress_stays : (now : ℕ) (progress : Progress) → 0 < progress.missing
    → looked_progress now progress ≡ progress
progress_stays now progress missing = grind arith

pub looked_later : (old : ExchangeTime) (running : RunningTime) (progress : Progress)
    (shown moment given wait : ℕ) → old.running.ran < 2 ^ 64
    → running ≡ ran_to given wait old.running → progress ≡ looked_progress moment old.progress
    → IsLater old (record old { shown = shown; running = running; progress = progress })
looked_later old running progress shown moment given wait within ran progressed =
    record {
      begun = refl;
      limit = refl;
      running = ap (λ (it : RunningTime). it.limit) ran;
      ran = rw (ap (λ (it : RunningTime). it.ran) ran) (no_less _ _ within);
      progress = λ missing. progressed ∙ progress_stays moment old.progress missing;
    }
