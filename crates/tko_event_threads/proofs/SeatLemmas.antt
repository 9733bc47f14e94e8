-- What a worker's health made so far.
use Rattle.std.proofs.Common.{◌≡◌, ℕ, Option, Some, None, ◌++◌, [], ◌∷◌, subst, sym}
use Rattle.std.specs.Prelude.{IfNone, IfSome}
use Rattle.tko_model.specs.Records.{HealthItem, NoDuty}
use Rattle.tko_model.proofs.RecordLemmas.{gains_none, gains_push}
use Rattle.tko_event_threads.specs.Origins.{IsReached}

module _ {H : Type 0} {steps : H → HealthItem → H → Type 0} {seated : H → Type 0} where
  -- nothing yet
  pub reached_first : {first : H} → seated first → IsReached steps seated first
  reached_first {first} begun =
      record { first = first; begun = begun; calls = []; made = gains_none first }

  -- one call more
  pub reached_on : {old new : H} {item : HealthItem} → IsReached steps seated old → steps old item new
      → IsReached steps seated new
  reached_on {item} reached step = record {
    first = reached.first;
    begun = reached.begun;
    calls = reached.calls ++ item ∷ [];
    made = gains_push reached.made step;
  }

  -- the right to probe was asked for
  pub reached_duty : {old new : H} (result : Option ℕ) (server : ℕ) → IfSome result (λ duty. (duty ≡ server) × (new ≡ old))
      → IfNone result (steps old (NoDuty server) new) → IsReached steps seated old → IsReached steps seated new
  reached_duty None server granted denied reached = reached_on reached denied
  reached_duty (Some duty) server granted denied reached = subst (λ h. IsReached steps seated h) (sym granted.1) reached
