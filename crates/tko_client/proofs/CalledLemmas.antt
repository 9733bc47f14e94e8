-- What one call is to a client: its session went on, or a call was made for its keys.
use Rattle.std.proofs.Common.{◌≡◌, ◌≢◌, ℕ, List, [], Some, None, refl, sym, ap, subst, ◌∙◌}
use Rattle.tko_pools.specs.Configs.{Configuration}
use Rattle.tko_reply.specs.Ghosts.{PartsGhosts}
use Rattle.tko_reply.specs.Interactions.{Interaction}
use Rattle.tko_reply.specs.declared.parts.Parts.{Parts}
use Rattle.tko_mux.specs.Awaits.{IsAsking}
use Rattle.tko_keys.specs.KeysState.{KeysState, awaited_servers}
use Rattle.tko_session.specs.Awaiting.{awaited_in}
use Rattle.tko_session.specs.Clients.{Open, Short}
use Rattle.tko_session.specs.Acts as act
use Rattle.tko_client.specs.declared.answering.Answering.{Answering}
use Rattle.tko_client.specs.declared.calls.Went.{Went}
use Rattle.tko_client.specs.Answerings.{IsAnsweringReady, IsClientIdle, awaited_by_client}
use Rattle.tko_client.specs.Answerings.{awaited_with, client_at}
use Rattle.tko_client.specs.Calls.{IsCalled}
use Rattle.tko_client.specs.Keys.{HasKeyCall}
use Rattle.tko_client.specs.Steps.{HasStayed, IsLost, IsSessionLeft, IsStepped, StandsAfter}
use Rattle.tko_client.specs.Steps.{phase_of, server_asked_in}
use Rattle.tko_client.specs.declared.calls.Went.TheVariants as went
use Rattle.tko_client.specs.Staying.{no_change}
use Rattle.tko_client.specs.Shares.{ActsWithoutBytes, ClientOver, IsCallWithCost, acted, call_cost}
use Rattle.tko_client.specs.Shares.{rested}
use Rattle.tko_client.proofs.AskLemmas.{asked_some, same_asking}
use Rattle.tko_client.proofs.SessionStandsLemmas.{between_ready, goes_none, idle_none, session_asks}
use Rattle.tko_client.proofs.SessionStandsLemmas.{session_left, short_left}
use Rattle.tko_client.proofs.KeysStandLemmas.{handed_at, keys_left, keys_phase}

module _ {H T C : Type 0} (ghosts : PartsGhosts H (List ℕ) T C) where
  -- an act, with what its call cost
  pub with_cost : {old new : ClientOver H T C} (config : Configuration) → old.1.config ≡ config
      → (done : List Interaction) → ActsWithoutBytes ghosts old.1.config old done new
      → IsCallWithCost ghosts config old
      (record { done = done; cost = call_cost old.0.session new.0.session }) new
  with_cost {old} {new} config same done act = record {
    act = subst (λ c. ActsWithoutBytes ghosts c old done new) same act;
    cost = refl;
  }

module _ {H T C : Type 0} (ghosts : PartsGhosts H (List ℕ) T C) (servers : H → ℕ) where
  -- the session went on
  pub session_called : (came : Went) (old new : Answering) (parts after : Parts H (List ℕ) T C)
      → IsClientIdle old → new ≡ record old { session = new.session; told = new.told }
      → IsStepped ghosts (phase_of came) (old.session, parts) (new.session, after)
      → StandsAfter came new.session → IsSessionLeft servers new.session parts after
      → IsCalled ghosts servers came (old, parts) (new, after)
  session_called came old new parts after idle same step stands left =
      let none = idle_none old idle in
      let without : new.keys ≡ None = ap (λ (it : Answering). it.keys) same ∙ none.0 in record {
        gone = acted step.done (
          act.stepped step.done refl refl step.call (ap (client_at (phase_of came)) same),
          step.gains,
        );
        asks = session_asks old new (server_asked_in came) none.0
            (goes_none old.session.work none.1) without stands.asks;
        left = session_left came old new parts after without stands left;
      }

  -- memory ran out as it did
  pub session_short : (old new : Answering) (parts after : Parts H (List ℕ) T C) → IsClientIdle old
      → new ≡ record old { session = new.session; told = new.told }
      → IsLost ghosts (old.session, parts) (new.session, after) → HasStayed servers parts after
      → IsCalled ghosts servers went.Short (old, parts) (new, after)
  session_short old new parts after idle same lost stays =
      let none = idle_none old idle in
      let without : new.keys ≡ None = ap (λ (it : Answering). it.keys) same ∙ none.0 in record {
        gone = acted lost.done
            (act.lost lost.done refl refl lost.loss (ap (client_at Short) same), lost.gains);
        asks = session_asks old new None none.0 (goes_none old.session.work none.1) without
            (ap awaited_in lost.between);
        left = short_left old new parts after without lost.between
            (between_ready after.config new.session lost.between) stays;
      }

  -- a call was made for the keys
  pub keys_called : (came : Went) (old : Answering) (keys now : KeysState)
      (parts after : Parts H (List ℕ) T C) → IsAnsweringReady parts.config old
      → old.keys ≡ Some keys
      → HasKeyCall ghosts came (keys, parts) (now, after) → HasStayed servers parts after
      → IsCalled ghosts servers came (old, parts) (record old { keys = Some now }, after)
  keys_called came old keys now parts after ready are call stays =
      let at = handed_at ready are in
      let has : act.HasKeys (client_at Open old) keys =
      record { going = refl; at = at; are = are } in
      let asks : IsAsking (server_asked_in came) (awaited_by_client old) (awaited_servers now) =
      subst (λ k. IsAsking (server_asked_in came) (awaited_with k old.session.work)
      (awaited_servers now))
      (sym are) call.asks in record {
        gone = acted call.done (
          act.keyed call.done keys now has call.act.0 refl
              (ap (λ p. client_at p (record old { keys = Some now }))
              (keys_phase came call.left.goes)),
          call.act.1,
        );
        asks = asks;
        left = keys_left came old keys now parts parts after ready at refl call.left
            (λ server is. asked_some server (awaited_servers keys) (awaited_servers now)
            (subst (λ a. IsAsking a (awaited_servers keys) (awaited_servers now)) is
            call.asks)) stays;
      }

  -- requests for keys are under way, and nothing can be done before something comes for one of them
  pub waits_called : (at : Answering) (keys : KeysState) (parts : Parts H (List ℕ) T C)
      → IsAnsweringReady parts.config at → at.keys ≡ Some keys → awaited_servers keys ≢ []
      → IsCalled ghosts servers went.Waits (at, parts) (record at { keys = Some keys }, parts)
  waits_called at keys parts ready are waits =
      subst (λ k. IsCalled ghosts servers went.Waits (at, parts) (record at { keys = k }, parts)) are
      (record {
        gone = rested refl;
        asks = same_asking (awaited_by_client at) (awaited_by_client at) refl;
        left = record {
          request = tt;
          stands = subst (λ k. awaited_with k at.session.work ≢ []) (sym are) waits;
          reading = tt;
          ready = record { session = ready.session; keys = ready.keys };
          stays = no_change;
        };
      })
