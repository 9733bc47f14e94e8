-- The end of a turn of events.
use Rattle.std.proofs.Common.{◌≡◌, ℕ, Bool, List, ap, subst, sym, ◌∙◌}
use Rattle.tko_health.specs.declared.health.Health.{Ghosts as HealthGhosts}
use Rattle.tko_pools.specs.Configs.{Configuration}
use Rattle.tko_prober.specs.declared.backend.Backend.{Backend}
use Rattle.tko_port.specs.Talks.{Readiness}
use Rattle.tko_reply.specs.declared.parts.Parts.{Parts}
use Rattle.tko_rounds.specs.Rounds.{IsEventRound, RoundState}
use Rattle.tko_worker.specs.Workers.{IsInOrder, Sight, WorkerState}
use Rattle.tko_worker.specs.declared.ends.EndCounts.{EndCounts}
use Rattle.tko_event_threads.specs.Accounting.{AccountState, IsTurnCounted}
use Rattle.tko_event_threads.specs.Turns.{IsHostRound, IsTurnEnd}

-- how many clients ended is no matter of a worker's order
pub order_whatever_ended : {L T P : Type 0} (sight : Sight L T) (is_ready : Readiness P T) (old new : WorkerState L T P) (ends : EndCounts)
    → new ≡ record old { ends = ends } → IsInOrder sight is_ready old → IsInOrder sight is_ready new
order_whatever_ended {L} {T} {P} sight is_ready old new ends cleared order =
    let kept : IsInOrder sight is_ready (record old { ends = ends }) =
    record { ready = order.ready; linked = order.linked; nobody = order.nobody } in
    let Q : WorkerState L T P → Type 0 = λ worker. IsInOrder sight is_ready worker in
    subst Q (sym cleared) kept

module _ {H C : Type 0} (health : HealthGhosts H) where
  -- a round, and after it what is counted
  pub host_round : (moment due : ℕ) (short ran_out : Bool) (before after : RoundState H (List ℕ) C)
      (old mid new : Parts H (List ℕ) AccountState C) (left : Backend H (List ℕ) C) (ends : EndCounts) (sent : ℕ)
      → ran_out ≡ short → IsEventRound health moment due before short after → before.backend ≡ old.backend → after.backend ≡ mid.backend
      → mid ≡ record old { backend = left } → IsTurnEnd ends ran_out sent mid new → IsHostRound health moment old new
  host_round moment due short ran_out before after old mid new left ends sent same round from to stays end =
      let trails : mid.trails ≡ old.trails = ap (λ (p : Parts H (List ℕ) AccountState C). p.trails) stays in
      let backend : new.backend ≡ mid.backend = ap (λ (p : Parts H (List ℕ) AccountState C). p.backend) end.others in
      let config : new.config ≡ old.config = ap (λ (p : Parts H (List ℕ) AccountState C). p.config) end.others
      ∙ ap (λ (p : Parts H (List ℕ) AccountState C). p.config) stays in record {
        due = due;
        ran_out = ran_out;
        before = before;
        after = after;
        round = subst (λ (it : Bool). IsEventRound health moment due before it after) (sym same) round;
        from = from;
        to = to ∙ sym backend;
        ends = ends;
        sent = sent;
        counted = subst (λ (at : AccountState). IsTurnCounted ends ran_out sent at new.trails) trails end.counted;
        others = ap (λ (c : Configuration). record { backend = new.backend; trails = new.trails; config = c }) config;
      }
