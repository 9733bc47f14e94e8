-- The keys that something came for are taken on, one after another.
use Rattle.std.proofs.Common.{◌≡◌, ◌≢◌, ◌<◌, ℕ, Bool, false, List, [], ◌∷◌, ◌++◌, length, map, refl}
use Rattle.std.proofs.Common.{sym, ap, subst, ◌∙◌, arith}
use Rattle.std.specs.Bool.{OnFalse}
use Rattle.std.specs.Prelude.{◌↔◌, IsTrue}
use Rattle.tko_model.specs.Records.{Gains, HealthItem}
use Rattle.tko_model.proofs.RecordLemmas.{gains_push}
use Rattle.tko_pools.specs.Configs.{Configuration}
use Rattle.tko_route.specs.Calls.{RoutedCall, Told}
use Rattle.tko_route.specs.declared.attempt.Attempt.{Attempt}
use Rattle.tko_reply.specs.Ghosts.{PartsGhosts}
use Rattle.tko_reply.specs.Interactions.{Made, Noted, with_health, with_noted}
use Rattle.tko_reply.specs.declared.parts.Parts.{Parts}
use Rattle.tko_reply.proofs.InteractionLemmas.{gains_told}
use Rattle.tko_keys.specs.declared.step.KeyStep.{KeyStep}
use Rattle.tko_keys.specs.KeysDriven.{AreUnderWay, FirstLost, FirstTaken}
use Rattle.tko_keys.specs.KeysState.{KeySlot, KeysCame, KeysState}
use Rattle.tko_keys.specs.SlotCalls.{PartDropped}
use Rattle.tko_keys.specs.KeysActs as act
use Rattle.tko_keys.specs.SlotCalls as slots
use Rattle.tko_client.specs.Keys.{DoesForKeys, HasKeyGoneOn, HaveActedForKeys, HaveGoneOn}
use Rattle.tko_client.specs.Keys.{IsKeyRecorded, KeysOver}
use Rattle.tko_client.proofs.AskLemmas.{none_true}
use Rattle.tko_client.proofs.KeysLemmas.{recorded_came, recorded_ready, recorded_sends, said_act}

-- a key that was dropped takes no other key with it
dropped_places : {config : Configuration} {came left : KeysCame} {old new : KeySlot}
    {calls : List RoutedCall} {attempts : List Attempt}
    → PartDropped config came old calls attempts left new
    → left.places ≡ came.places
dropped_places (slots.in_call part awaited is out lost leaves) =
    ap (λ (c : KeysCame). c.places) leaves.same
dropped_places (slots.before awaited out none marks same is) = ap (λ (c : KeysCame). c.places) same

module _ {H T C : Type 0} (ghosts : PartsGhosts H (List ℕ) T C) where
  -- the first key that something came for was taken on
  pub took_call : (old mid new : KeysState) (parts after : Parts H (List ℕ) T C) (health : H)
      (items : List HealthItem) (said : KeyStep)
      → FirstTaken parts.config old (map Told items) said mid → AreUnderWay parts.config mid
      → Gains ghosts.backend.steps parts.backend.health items health
      → IsKeyRecorded ghosts said (mid, with_health health parts) (new, after)
      → HasKeyGoneOn ghosts (old, parts) (new, after)
  took_call old mid new parts after health items said on ready gains noted =
      let has =
      said_act ghosts (FirstTaken parts.config old (map Told items)) parts.config old mid new
      parts after health items said (λ is. act.took (map Told items) said is refl)
      (λ trail is same. act.took_unrecorded (map Told items) trail mid is same refl)
      on gains noted in
      let left : mid.came.places ≡ on.places = ap (λ (k : KeysState). k.came.places) on.state
      ∙ ap (λ (c : KeysCame). c.places) on.taken.leaves.same in
      let places : new.came.places ≡ on.places =
      ap (λ (c : KeysCame). c.places) (recorded_came ghosts noted) ∙ left in record {
        done = has.done;
        act = has.act;
        place = on.place;
        places = on.first ∙ ap (λ (xs : List ℕ). on.place ∷ xs) (sym places);
        sends = recorded_sends ghosts noted ∙ ap (λ (k : KeysState). k.sends) on.state;
        ready = recorded_ready ghosts noted ready;
      }

  -- memory ran out there
  pub take_lost_call : (old new : KeysState) (parts after : Parts H (List ℕ) T C) (health : H)
      (items : List HealthItem) (attempts : List Attempt)
      → FirstLost parts.config old (map Told items) attempts new → AreUnderWay parts.config new
      → Gains ghosts.backend.steps parts.backend.health items health
      → after ≡ with_noted attempts (with_health health parts)
      → HasKeyGoneOn ghosts (old, parts) (new, after)
  take_lost_call old new parts after health items attempts on ready gains is =
      let places : new.came.places ≡ on.places = ap (λ (k : KeysState). k.came.places) on.state
      ∙ dropped_places on.lost in record {
        done = map Made (map Told items) ++ Noted attempts ∷ [];
        act = (
          act.take_lost (map Told items) attempts on refl,
          gains_push (gains_told ghosts gains) is,
        );
        place = on.place;
        places = on.first ∙ ap (λ (xs : List ℕ). on.place ∷ xs) (sym places);
        sends = ap (λ (k : KeysState). k.sends) on.state;
        ready = ready;
      }

  -- one more act
  pub acted_on : {config : Configuration} {old mid new : KeysOver H T C} → mid.1.config ≡ config
      → HaveActedForKeys ghosts config old mid → HasKeyGoneOn ghosts mid new
      → HaveActedForKeys ghosts config old new
  acted_on {mid = mid} {new} same acted on = record {
    calls = acted.calls ++ on.done ∷ [];
    gains = gains_push acted.gains (subst (λ c. DoesForKeys ghosts c mid on.done new) same on.act);
  }

  -- they were taken on until none was left
  pub all_taken_on : (old new : KeysOver H T C) (more : Bool) → new.1.config ≡ old.1.config
      → HaveActedForKeys ghosts old.1.config old new → new.0.sends ≡ old.0.sends
      → AreUnderWay new.1.config new.0
      → IsTrue more ↔ (new.0.came.places ≢ []) → more ≡ false → HaveGoneOn ghosts old new
  all_taken_on old new more same acted sends ready left none = record {
    acted = acted;
    sends = sends;
    ready = record {
      under_way = subst (λ c. AreUnderWay c new.0) same ready;
      settled = subst (λ b. OnFalse b (new.0.came.places ≡ [])) none
          (none_true new.0.came.places more left);
    };
  }

  -- one less is left then
  pub less_left : (old new : KeysOver H T C) → HasKeyGoneOn ghosts old new
      → length new.0.came.places < length old.0.came.places
  less_left old new on = omega (arith, ap (λ (xs : List ℕ). length xs) on.places)
