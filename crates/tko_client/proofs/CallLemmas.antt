-- What each call of a client's session is, with what is recorded after it.
use Rattle.std.proofs.Common.{◌≡◌, ℕ, List, [], ◌∷◌, ◌++◌, map, Result, Ok, Err, refl, sym, ap}
use Rattle.std.proofs.Common.{subst}
use Rattle.std.specs.Prelude.{IfOk, OnErr, OnOk}
use Rattle.tko_bytes.specs.declared.memory.NoMemory.{NoMemory}
use Rattle.tko_links.specs.declared.links.Outcome.{Outcome}
use Rattle.tko_model.specs.Records.{Gains, HealthItem}
use Rattle.tko_model.proofs.RecordLemmas.{gains_append, gains_none, gains_one}
use Rattle.tko_pools.specs.Configs.{Configuration}
use Rattle.tko_route.specs.Calls.{Told}
use Rattle.tko_route.specs.declared.attempt.Attempt.{Attempt}
use Rattle.tko_reply.specs.Ghosts.{PartsGhosts}
use Rattle.tko_reply.specs.Interactions.{Interacts, Made, marks_of, with_health, with_noted}
use Rattle.tko_reply.specs.Sends.{IsSent}
use Rattle.tko_reply.specs.Standing.{SentKey}
use Rattle.tko_reply.specs.declared.parts.Parts.{Parts}
use Rattle.tko_reply.proofs.InteractionLemmas.{gains_told}
use Rattle.tko_session.specs.Acts.{IsSessionCall, came_to, left_after, recorded_after}
use Rattle.tko_session.specs.Driven.{AwaitedDropped, AwaitedTaken, IsAwaiting, IsSessionReady}
use Rattle.tko_session.specs.Driven.{IsReadyFor, WasDropped, WentOn}
use Rattle.tko_session.specs.SessionState.{SessionState}
use Rattle.tko_session.specs.Working.{Work}
use Rattle.tko_session.specs.declared.step.Step.{Step}
use Rattle.tko_session.specs.Acts as act
use Rattle.tko_session.specs.Working as work
use Rattle.tko_client.specs.declared.calls.Went.{Went}
use Rattle.tko_client.specs.Steps.{IsLost, IsLostTaking, IsOutcomeTaken, IsStepped, IsUnrecorded}
use Rattle.tko_client.specs.Steps.{phase_of, went_from}
use Rattle.tko_client.proofs.LeavingLemmas.{lost_between, phase_same}

module _ {H T C : Type 0} (ghosts : PartsGhosts H (List ℕ) T C) where
  -- the marks of attempts were noted, if there are any
  pub marks_gained : (old : Parts H (List ℕ) T C) (attempts : List Attempt)
      → Gains (Interacts ghosts) old (marks_of attempts) (with_noted attempts old)
  marks_gained old [] = gains_none old
  marks_gained old (one ∷ attempts) = gains_one refl

module _ {H T C : Type 0} (ghosts : PartsGhosts H (List ℕ) T C) where
  -- the session went on, and what it said was recorded
  pub stepped : (old mid now : SessionState) (parts after : Parts H (List ℕ) T C) (health : H)
      (items : List HealthItem) (said : Step) (result : Result Went NoMemory)
      → WentOn parts.config old (map Told items) said mid
      → Gains ghosts.backend.steps parts.backend.health items health
      → IfOk result (λ went. went ≡ went_from said)
      → OnOk result (Gains (Interacts ghosts) (with_health health parts)
      (recorded_after said mid.work) after) → OnOk result (now ≡ mid)
      → IfOk result (λ went. IsStepped ghosts (phase_of went) (old, parts) (now, after))
  stepped old mid now parts after health items said (Ok got) on gains is recorded same =
      subst (λ w. IsStepped ghosts (phase_of w) (old, parts) (now, after)) (sym is) (record {
        done = map Made (map Told items) ++ recorded_after said mid.work;
        call = subst (λ s. IsSessionCall parts.config old
            (map Made (map Told items) ++ recorded_after said mid.work)
            (phase_of (went_from said)) s) (sym same)
            (act.went (map Told items) said on refl (sym (phase_same said)));
        gains = gains_append (gains_told ghosts gains) recorded;
      })
  stepped old mid now parts after health items said (Err fault) on gains is recorded same = tt

  -- memory ran out as what it said was recorded
  pub unrecorded : (old mid now : SessionState) (parts after : Parts H (List ℕ) T C) (health : H)
      (items : List HealthItem) (said : Step) (result : Result Went NoMemory)
      → WentOn parts.config old (map Told items) said mid
      → Gains ghosts.backend.steps parts.backend.health items health
      → OnErr result (IsUnrecorded ghosts said (mid, with_health health parts) (now, after))
      → OnErr result (IsLost ghosts (old, parts) (now, after))
  unrecorded old mid now parts after health items said (Ok got) on gains short = tt
  unrecorded old mid now parts after health items said (Err fault) on gains short = record {
    done = map Made (map Told items) ++ left_after said;
    loss = act.went_unrecorded (map Told items) said mid on short.some short.state refl;
    gains = gains_append (gains_told ghosts gains) short.gains;
    between = ap (λ (s : SessionState). s.work) short.state;
  }

  -- memory ran out as it went on
  pub lost : (old now : SessionState) (parts after : Parts H (List ℕ) T C) (health : H)
      (items : List HealthItem) (attempts : List Attempt)
      → WasDropped parts.config old (map Told items) attempts now
      → Gains ghosts.backend.steps parts.backend.health items health
      → after ≡ with_noted attempts (with_health health parts)
      → IsLost ghosts (old, parts) (now, after)
  lost old now parts after health items attempts on gains is = record {
    done = map Made (map Told items) ++ marks_of attempts;
    loss = act.went (map Told items) attempts on refl;
    gains = subst (λ p. Gains (Interacts ghosts) parts
        (map Made (map Told items) ++ marks_of attempts) p) (sym is)
        (gains_append (gains_told ghosts gains)
        (marks_gained ghosts (with_health health parts) attempts));
    between = lost_between parts.config old (map Told items) attempts now on;
  }

  -- the session took what came of its send, and what it said was recorded
  pub took : (old mid now : SessionState) (parts after : Parts H (List ℕ) T C) (health : H)
      (items : List HealthItem) (said : Step) (outcome : Outcome) (it : SentKey)
      (result : Result Went NoMemory) → old.work ≡ work.Awaits it
      → AwaitedTaken parts.config outcome old (map Told items) said mid
      → Gains ghosts.backend.steps parts.backend.health items health
      → IfOk result (λ went. went ≡ went_from said)
      → OnOk result (Gains (Interacts ghosts) (with_health health parts)
      (recorded_after said mid.work) after) → OnOk result (now ≡ mid)
      → IfOk result (λ went. IsOutcomeTaken ghosts outcome (phase_of went) (old, parts)
      (now, after))
  took old mid now parts after health items said outcome it (Ok got) at on gains is recorded same =
      let then = map Made (map Told items) ++ recorded_after said mid.work in
      subst (λ w. IsOutcomeTaken ghosts outcome (phase_of w) (old, parts) (now, after)) (sym is)
      (record {
        it = it;
        at = at;
        then = then;
        call = subst (λ s. IsSessionCall parts.config old (came_to it (Ok outcome) ∷ then)
            (phase_of (went_from said)) s) (sym same)
            (act.took it outcome (map Told items) said at on refl (sym (phase_same said)));
        gains = gains_append (gains_told ghosts gains) recorded;
      })
  took old mid now parts after health items said outcome it (Err fault) at on gains is recorded
      same = tt

  -- memory ran out as what it said was recorded
  pub took_unrecorded : (old mid now : SessionState) (parts after : Parts H (List ℕ) T C)
      (health : H) (items : List HealthItem) (said : Step) (outcome : Outcome) (it : SentKey)
      (result : Result Went NoMemory) → old.work ≡ work.Awaits it
      → AwaitedTaken parts.config outcome old (map Told items) said mid
      → Gains ghosts.backend.steps parts.backend.health items health
      → OnErr result (IsUnrecorded ghosts said (mid, with_health health parts) (now, after))
      → OnErr result (IsLostTaking ghosts outcome (old, parts) (now, after))
  took_unrecorded old mid now parts after health items said outcome it (Ok got) at on gains short =
      tt
  took_unrecorded old mid now parts after health items said outcome it (Err fault) at on gains
      short = record {
        it = it;
        at = at;
        then = map Made (map Told items) ++ left_after said;
        loss = act.took_unrecorded it outcome
            (map Told items) said mid at on short.some short.state refl;
        gains = gains_append (gains_told ghosts gains) short.gains;
        between = ap (λ (s : SessionState). s.work) short.state;
      }

  -- memory ran out as it took that
  pub took_lost : (old now : SessionState) (parts after : Parts H (List ℕ) T C) (health : H)
      (items : List HealthItem) (attempts : List Attempt) (outcome : Outcome) (it : SentKey)
      → old.work ≡ work.Awaits it
      → AwaitedDropped parts.config outcome old (map Told items) attempts now
      → Gains ghosts.backend.steps parts.backend.health items health
      → after ≡ with_noted attempts (with_health health parts)
      → IsLostTaking ghosts outcome (old, parts) (now, after)
  took_lost old now parts after health items attempts outcome it at on gains is =
      let then = map Made (map Told items) ++ marks_of attempts in record {
        it = it;
        at = at;
        then = then;
        loss = act.took it outcome (map Told items) attempts at on refl;
        gains = subst (λ p. Gains (Interacts ghosts) parts then p) (sym is)
            (gains_append (gains_told ghosts gains)
            (marks_gained ghosts (with_health health parts) attempts));
        between = ap (λ (s : SessionState). s.work) (on it at).state;
      }

-- a send is out for this key
pub awaiting_at : (at : Work) → IsAwaiting at → (it : SentKey) × (at ≡ work.Awaits it)
awaiting_at work.Between never = absurd never
awaiting_at (work.Read one) never = absurd never
awaiting_at (work.Awaits it) is = (it, refl)
awaiting_at (work.Ended one) never = absurd never
awaiting_at work.HandedOver never = absurd never

-- it is to one of the session's targets
pub out_at : (config : Configuration) (state : SessionState) (it : SentKey)
    → state.work ≡ work.Awaits it → IsSessionReady config state → IsSent config state.targets it
out_at config state it is ready = (subst (λ w. IsReadyFor config state w) is ready).sent
