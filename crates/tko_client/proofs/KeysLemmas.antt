-- What each call for the keys of a request is, with what is recorded after it.
use Rattle.std.proofs.Common.{◌≡◌, ℕ, Bool, List, [], ◌∷◌, ◌++◌, All, map, Some, refl, sym, ap}
use Rattle.std.proofs.Common.{subst, ◌∙◌, arith}
use Rattle.std.specs.Prelude.{◌==◌, IsSome}
use Rattle.std.specs.Option.{option_and_then}
use Rattle.tko_model.specs.Records.{Gains, HealthItem}
use Rattle.tko_model.proofs.RecordLemmas.{gains_append, gains_none}
use Rattle.tko_pools.specs.Configs.{Configuration}
use Rattle.tko_route.specs.Calls.{RoutedCall, Told}
use Rattle.tko_route.specs.declared.attempt.Attempt.{Attempt}
use Rattle.tko_reply.specs.Ghosts.{PartsGhosts}
use Rattle.tko_reply.specs.Interactions.{Interaction, Interacts, Made, Noted, marks_of, with_health}
use Rattle.tko_reply.specs.Interactions.{with_noted}
use Rattle.tko_reply.specs.declared.parts.Parts.{Parts}
use Rattle.tko_reply.proofs.InteractionLemmas.{gains_told}
use Rattle.tko_mux.specs.Awaits.{one_if, times_due}
use Rattle.tko_mux.proofs.AwaitsLemmas.{due_first}
use Rattle.tko_keys.specs.declared.step.KeyStep.{KeyStep}
use Rattle.tko_keys.specs.KeysActs.{KeysAct, key_record}
use Rattle.tko_keys.specs.KeysDriven.{AreUnderWay, HasSent, IsSentAt, NextBegun, NextLost}
use Rattle.tko_keys.specs.KeysDriven.{with_loss}
use Rattle.tko_keys.specs.KeysState.{KeysCame, KeysState, awaited_servers, request_of}
use Rattle.tko_keys.specs.declared.step.KeyStep.TheVariants as step
use Rattle.tko_keys.specs.KeysActs as act
use Rattle.tko_keys.specs.KeysDriven as driven
use Rattle.tko_client.specs.Answerings.{AreSettled}
use Rattle.tko_client.specs.Keys.{DoesForKeys, HasKeyCall, IsKeyRecorded, KeysOver}
use Rattle.tko_client.specs.declared.calls.Went.TheVariants as went
use Rattle.tko_client.specs.Keys as kept
use Rattle.tko_client.proofs.AskLemmas.{due_joined, same_asking, servers_of}
use Rattle.tko_client.proofs.CallLemmas.{marks_gained}
use Rattle.tko_client.proofs.UnderWayLemmas.{all_between, last_of, last_pushed, sent_some}

loss_ready : {config : Configuration} {keys : KeysState} → AreUnderWay config keys
    → AreUnderWay config (with_loss keys)
loss_ready is = record {
  due = is.due;
  sent = is.sent;
  came = is.came;
  once = is.once;
  some = is.some;
  few = is.few;
  near = is.near;
  failed = is.failed;
}

-- memory ran out before the next key was begun, or at it: what is under way and what came stay
begin_lost_sends : {config : Configuration} {old new : KeysState} {calls : List RoutedCall}
    {attempts : List Attempt} → NextLost config old calls attempts new → new.sends ≡ old.sends
begin_lost_sends (driven.unbegun none unmarked same) = ap (λ (k : KeysState). k.sends) same
begin_lost_sends (driven.at_next key left slot may next lost ended same) =
    ap (λ (k : KeysState). k.sends) same

begin_lost_came : {config : Configuration} {old new : KeysState} {calls : List RoutedCall}
    {attempts : List Attempt} → NextLost config old calls attempts new → new.came ≡ old.came
begin_lost_came (driven.unbegun none unmarked same) = ap (λ (k : KeysState). k.came) same
begin_lost_came (driven.at_next key left slot may next lost ended same) =
    ap (λ (k : KeysState). k.came) same

module _ {H T C : Type 0} (ghosts : PartsGhosts H (List ℕ) T C) where
  -- an act for the keys
  pub record HasDone (config : Configuration) (old new : KeysOver H T C) : Type 0 where
    pub done : List Interaction
    pub act : DoesForKeys ghosts config old done new

  -- what is recorded after a call changes nothing that is under way, and nothing that came
  pub recorded_ready : {config : Configuration} {said : KeyStep} {mid new : KeysState}
      {parts after : Parts H (List ℕ) T C} → IsKeyRecorded ghosts said (mid, parts) (new, after)
      → AreUnderWay config mid → AreUnderWay config new
  recorded_ready {config} (kept.recorded same gains) ready =
      subst (AreUnderWay config) (sym same) ready
  recorded_ready {config} (kept.unrecorded trail is same gains) ready =
      subst (AreUnderWay config) (sym same) (loss_ready ready)

  pub recorded_sends : {said : KeyStep} {mid new : KeysState} {parts after : Parts H (List ℕ) T C}
      → IsKeyRecorded ghosts said (mid, parts) (new, after) → new.sends ≡ mid.sends
  recorded_sends (kept.recorded same gains) = ap (λ (k : KeysState). k.sends) same
  recorded_sends (kept.unrecorded trail is same gains) = ap (λ (k : KeysState). k.sends) same

  pub recorded_came : {said : KeyStep} {mid new : KeysState} {parts after : Parts H (List ℕ) T C}
      → IsKeyRecorded ghosts said (mid, parts) (new, after) → new.came ≡ mid.came
  recorded_came (kept.recorded same gains) = ap (λ (k : KeysState). k.came) same
  recorded_came (kept.unrecorded trail is same gains) = ap (λ (k : KeysState). k.came) same

  -- a call for keys that nothing came for
  calm_call : (old new : KeysState) (parts after : Parts H (List ℕ) T C)
      → HasDone parts.config (old, parts) (new, after) → new.sends ≡ old.sends → new.came ≡ old.came
      → AreSettled parts.config old → AreUnderWay parts.config new
      → HasKeyCall ghosts went.On (old, parts) (new, after)
  calm_call old new parts after has sends came was ready = record {
    done = has.done;
    act = has.act;
    asks = same_asking (awaited_servers old) (awaited_servers new) (ap servers_of sends);
    left = record {
      request = tt;
      goes = tt;
      ready = record {
        under_way = ready;
        settled = ap (λ (c : KeysCame). c.places) came ∙ was.settled;
      };
    };
  }

  -- a call that said this, with what was recorded after it or could not be, is an act
  pub said_act : (Says : KeyStep → KeysState → Type 0) (config : Configuration)
      (old mid new : KeysState) (parts after : Parts H (List ℕ) T C) (health : H)
      (items : List HealthItem) (said : KeyStep)
      → (Says said new → KeysAct config old (map Made (map Told items) ++ key_record said) new)
      → ((trail : List Attempt) → Says (step.Tried trail) mid → new ≡ with_loss mid
      → KeysAct config old (map Made (map Told items) ++ Noted trail ∷ []) new)
      → Says said mid → Gains ghosts.backend.steps parts.backend.health items health
      → IsKeyRecorded ghosts said (mid, with_health health parts) (new, after)
      → HasDone config (old, parts) (new, after)
  said_act Says config old mid new parts after health items said noted unnoted is gains
      (kept.recorded same more) = record {
        done = map Made (map Told items) ++ key_record said;
        act = (
          noted (subst (Says said) (sym same) is),
          gains_append (gains_told ghosts gains) more,
        );
      }
  said_act Says config old mid new parts after health items said noted unnoted is gains
      (kept.unrecorded trail tried same more) = record {
        done = map Made (map Told items) ++ Noted trail ∷ [];
        act = (
          unnoted trail (subst (λ s. Says s mid) tried is) same,
          gains_append (gains_told ghosts gains) more,
        );
      }

  -- the next key was begun
  pub begun_call : (old mid new : KeysState) (parts after : Parts H (List ℕ) T C) (health : H)
      (items : List HealthItem) (said : KeyStep) → AreSettled parts.config old
      → NextBegun parts.config old (map Told items) said mid → AreUnderWay parts.config mid
      → Gains ghosts.backend.steps parts.backend.health items health
      → IsKeyRecorded ghosts said (mid, with_health health parts) (new, after)
      → HasKeyCall ghosts went.On (old, parts) (new, after)
  begun_call old mid new parts after health items said was on ready gains noted =
      calm_call old new parts after
      (said_act (NextBegun parts.config old (map Told items)) parts.config old mid new parts
      after
      health items said (λ is. act.began (map Told items) said is refl)
      (λ trail is same. act.began_unrecorded (map Told items) trail mid is same refl) on gains
      noted)
      (recorded_sends noted ∙ ap (λ (k : KeysState). k.sends) on.state)
      (recorded_came noted ∙ ap (λ (k : KeysState). k.came) on.state) was
      (recorded_ready noted ready)

  -- memory ran out there
  pub begin_lost_call : (old new : KeysState) (parts after : Parts H (List ℕ) T C) (health : H)
      (items : List HealthItem) (attempts : List Attempt) → AreSettled parts.config old
      → NextLost parts.config old (map Told items) attempts new → AreUnderWay parts.config new
      → Gains ghosts.backend.steps parts.backend.health items health
      → after ≡ with_noted attempts (with_health health parts)
      → HasKeyCall ghosts went.On (old, parts) (new, after)
  begin_lost_call old new parts after health items attempts was on ready gains is =
      calm_call old new parts after (record {
        done = map Made (map Told items) ++ marks_of attempts;
        act = (
          act.begin_lost (map Told items) attempts on refl,
          subst (λ p. Gains (Interacts ghosts) parts
              (map Made (map Told items) ++ marks_of attempts) p) (sym is)
              (gains_append (gains_told ghosts gains)
              (marks_gained ghosts (with_health health parts) attempts)),
        );
      }) (begin_lost_sends on) (begin_lost_came on) was ready

  -- keys that are due at a server go out
  pub sent_call : (server clear : ℕ) (short : Bool) (old new : KeysState)
      (parts : Parts H (List ℕ) T C) → AreSettled parts.config old → clear ≡ server
      → HasSent server short old new
      → AreUnderWay parts.config new → HasKeyCall ghosts (went.Asks clear) (old, parts) (new, parts)
  sent_call server clear short old new parts was names is ready =
      let sends : new.sends ≡ old.sends ++ is.send ∷ [] =
      ap (λ (k : KeysState). k.sends) is.state in
      let sent : All (IsSentAt parts.config new.plan.grouping new.unique new.slots)
      (old.sends ++ is.send ∷ []) =
      subst (All (IsSentAt parts.config new.plan.grouping new.unique new.slots)) sends ready.sent in
      let there : IsSome (request_of new.slots is.send) =
      sent_some parts.config new.plan.grouping new.unique new.slots is.send
      (all_between (IsSentAt parts.config new.plan.grouping new.unique new.slots) old.sends []
      is.send sent) in
      let last : last_of new.sends ≡ Some is.send =
      ap last_of sends ∙ last_pushed old.sends is.send in record {
        done = [];
        act = (act.sent server short is refl, gains_none parts);
        asks = λ at.
            let to : one_if (is.send.server == at) ≡ one_if (clear == at) =
            ap (λ (n : ℕ). one_if (n == at)) (is.to ∙ sym names) in
            let more : times_due (awaited_servers new) at ≡ times_due
            (servers_of (old.sends ++ is.send ∷ [])) at =
            ap (λ xs. times_due (servers_of xs) at) sends in
            omega (
              arith,
              to,
              more,
              due_joined old.sends (is.send ∷ []) at,
              due_first is.send.server [] at,
            );
        left = record {
          request = subst (λ o. IsSome (option_and_then (request_of new.slots) o)) (sym last) there;
          goes = tt;
          ready = record {
            under_way = ready;
            settled = ap (λ (k : KeysState). k.came.places) is.state ∙ was.settled;
          };
        };
      }
