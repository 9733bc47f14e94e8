-- What came of a request that is under way is taken, and counted as sends if it was sent.
use Rattle.std.proofs.Common.{◌≡◌, ◌≢◌, ℕ, Bool, true, false, List, [], ◌∷◌, ◌++◌, Option, Some}
use Rattle.std.proofs.Common.{None, Result, Ok, Err, refl, sym, ap, subst, ◌∙◌, slice_index}
use Rattle.tko_links.specs.declared.links.ExchangeNoMemory.{ExchangeNoMemory}
use Rattle.tko_links.specs.declared.links.Outcome.{Outcome}
use Rattle.tko_links.specs.Links.{is_sent, most_sends}
use Rattle.tko_health.specs.declared.health.Health.{Ghosts as HealthGhosts}
use Rattle.tko_model.specs.Records.{Lead}
use Rattle.tko_model.proofs.RecordLemmas.{gains_append, gains_one}
use Rattle.tko_pools.specs.Configs.{Configuration}
use Rattle.tko_route.specs.Calls.{came as came_as}
use Rattle.tko_reply.specs.Ghosts.{PartsGhosts}
use Rattle.tko_reply.specs.Interactions.{Interaction, Interacts, Made, Noted, with_noted}
use Rattle.tko_reply.specs.Standing.{SentKey}
use Rattle.tko_reply.specs.declared.parts.Parts.{Parts}
use Rattle.tko_reply.specs.declared.trails.Trails.{Ghosts as TrailsGhosts}
use Rattle.tko_mux.specs.Awaits.{awaited_one}
use Rattle.tko_keys.specs.KeysState.{KeysState, awaited_servers}
use Rattle.tko_session.specs.Acts.{IsLoss, IsSessionCall, came_to}
use Rattle.tko_session.specs.Awaiting.{awaited_in}
use Rattle.tko_session.specs.Clients.{Open, Short}
use Rattle.tko_session.specs.Driven.{dropped}
use Rattle.tko_session.specs.SessionState.{SessionState}
use Rattle.tko_session.specs.Acts as act
use Rattle.tko_session.specs.Working as work
use Rattle.tko_client.specs.declared.answering.Answering.{Answering}
use Rattle.tko_client.specs.declared.calls.Went.{Went}
use Rattle.tko_client.specs.Answerings.{IsAnsweringReady, awaited_by_client, awaited_with}
use Rattle.tko_client.specs.Answerings.{client_at}
use Rattle.tko_client.specs.Calls.{IsTakenAs}
use Rattle.tko_client.specs.Clients.{by_keys, by_session}
use Rattle.tko_client.specs.Counts.{IsSendCounted}
use Rattle.tko_client.specs.Keys.{DoesForKeys, HaveActedOnOutcome, KeysOver, TakesAt, came_by}
use Rattle.tko_client.specs.Staying.{stayed_on}
use Rattle.tko_client.specs.Steps.{HasStayed, IsLostTaking, IsOutcomeTaken, IsSessionLeft}
use Rattle.tko_client.specs.Steps.{StandsAfter, client_ghosts, phase_of, server_asked_in}
use Rattle.tko_client.specs.declared.calls.Went.TheVariants as went
use Rattle.tko_client.specs.Shares.{ActsWithoutBytes}
use Rattle.tko_client.proofs.AskLemmas.{one_taken}
use Rattle.tko_client.proofs.CountLemmas.{counted, one_stays, uncounted}
use Rattle.tko_client.proofs.SessionStandsLemmas.{between_ready, session_awaits, session_left}
use Rattle.tko_client.proofs.SessionStandsLemmas.{short_left}
use Rattle.tko_client.proofs.KeysStandLemmas.{handed_at, keys_left}
use Rattle.tko_client.proofs.SentToLemmas.{IsSentTo}

-- whom a client awaits once what came to its session was taken
session_takes : (server : ℕ) (asked : Option ℕ) (old new : Answering) → old.keys ≡ None
    → IsSentTo old.session.work server → new.keys ≡ None
    → awaited_in new.session.work ≡ asked
    → TakesAt server asked (awaited_by_client old) (awaited_by_client new)
session_takes server asked old new none sent without asks =
    let out : awaited_in old.session.work ≡ Some server = ap awaited_in sent.is ∙ ap Some sent.to in
    subst (λ xs. TakesAt server asked xs (awaited_by_client new))
    (sym (session_awaits old (Some server) none out))
    (subst (λ xs. TakesAt server asked (awaited_one (Some server)) xs)
    (sym (session_awaits new asked without asks)) (one_taken server asked))

keys_takes : (server : ℕ) (asked : Option ℕ) (old : Answering) (keys now : KeysState)
    → old.keys ≡ Some keys → TakesAt server asked (awaited_servers keys) (awaited_servers now)
    → TakesAt server asked (awaited_by_client old) (awaited_servers now)
keys_takes server asked old keys now are takes =
    subst (λ k. TakesAt server asked (awaited_with k old.session.work) (awaited_servers now))
    (sym are) takes

module _ {H T C : Type 0} (ghosts : PartsGhosts H (List ℕ) T C) where
  -- acts for keys are acts of their client
  keys_lead : (config : Configuration) (old : Answering) (keys now : KeysState)
      (parts after : Parts H (List ℕ) T C) (calls : List (List Interaction))
      → old.session.work ≡ work.HandedOver
      → old.keys ≡ Some keys → Lead (DoesForKeys ghosts config) (keys, parts) calls (now, after)
      → Lead (ActsWithoutBytes ghosts config) (client_at Open old, parts) calls
      (client_at Open (record old { keys = Some now }), after)
  keys_lead config old keys now parts after [] at are same =
      ap (λ (k : KeysOver H T C). (client_at Open (record old { keys = Some k.0 }), k.1)) same
      ∙ ap (λ k. (client_at Open (record old { keys = k }), parts)) (sym are)
  keys_lead config old keys now parts after (done ∷ calls) at are ((mid, between), step, rest) =
      let has : act.HasKeys (client_at Open old) keys =
      record { going = refl; at = at; are = are } in (
        (client_at Open (record old { keys = Some mid }), between),
        (act.keyed done keys mid has step.0 refl refl, step.1),
        keys_lead config (record old { keys = Some mid }) mid now between after calls at refl rest,
      )

module _ {H T C : Type 0} (health : HealthGhosts H) (trails : TrailsGhosts T)
    (servers : H → ℕ) where
  -- the session took what came of its send
  pub session_taken : (came : Went) (server : ℕ) (result : Outcome) (old new : Answering)
      (parts mid after : Parts H (List ℕ) T C) → old.keys ≡ None
      → IsSentTo old.session.work server → is_sent result ≡ true → IsSendCounted parts server mid
      → new ≡ record old { session = new.session; told = new.told }
      → IsOutcomeTaken (client_ghosts health trails) result (phase_of came) (old.session, mid)
      (new.session, after) → StandsAfter came new.session
      → IsSessionLeft servers new.session mid after
      → IsTakenAs (client_ghosts health trails) servers false server (Ok result) came (old, parts)
      (new, after)
  session_taken came server result old new parts mid after none sent is_sent_out counts same step
      stands left =
      let config : mid.config ≡ parts.config =
      ap (λ (p : Parts H (List ℕ) T C). p.config) counts.others in
      let it_same : step.it ≡ sent.it =
      (let equal : work.Awaits step.it ≡ work.Awaits sent.it = sym step.at ∙ sent.is in cc) in
      let to : step.it.awaited.server ≡ server = ap (λ (a : SentKey). a.awaited.server) it_same
      ∙ sent.to in
      let done = came_to step.it (Ok result) ∷ step.then in
      let without : new.keys ≡ None = ap (λ (it : Answering). it.keys) same ∙ none in
      let sends : Interacts (client_ghosts health trails) parts (came_to step.it (Ok result)) mid =
      subst (λ n. Interacts (client_ghosts health trails) parts
      (Made (came_as n step.it.key.request (Ok result))) mid) (sym to)
      (counted health trails server step.it.key.request result parts mid is_sent_out counts) in
      record {
        taken = by_session none (record {
          it = step.it;
          at = step.at;
          to = to;
          then = step.then;
          act = (
            act.stepped done refl refl
                (subst (λ c. IsSessionCall c old.session done (phase_of came) new.session) config
                step.call) (ap (client_at (phase_of came)) same),
            gains_append (gains_one sends) step.gains,
          );
        });
        takes = session_takes server (server_asked_in came) old new none sent without stands.asks;
        left = session_left came old new parts after without stands (record {
          ready = left.ready;
          stays = stayed_on (one_stays counts) left.stays;
        });
      }

  -- memory ran out as it did
  pub session_lost : (server : ℕ) (result : Outcome) (old new : Answering)
      (parts mid after : Parts H (List ℕ) T C) → old.keys ≡ None
      → IsSentTo old.session.work server → is_sent result ≡ true → IsSendCounted parts server mid
      → new ≡ record old { session = new.session; told = new.told }
      → IsLostTaking (client_ghosts health trails) result (old.session, mid) (new.session, after)
      → HasStayed servers mid after
      → IsTakenAs (client_ghosts health trails) servers false server (Ok result) went.Short
      (old, parts) (new, after)
  session_lost server result old new parts mid after none sent is_sent_out counts same step stays =
      let config : mid.config ≡ parts.config =
      ap (λ (p : Parts H (List ℕ) T C). p.config) counts.others in
      let it_same : step.it ≡ sent.it =
      (let equal : work.Awaits step.it ≡ work.Awaits sent.it = sym step.at ∙ sent.is in cc) in
      let to : step.it.awaited.server ≡ server = ap (λ (a : SentKey). a.awaited.server) it_same
      ∙ sent.to in
      let done = came_to step.it (Ok result) ∷ step.then in
      let without : new.keys ≡ None = ap (λ (it : Answering). it.keys) same ∙ none in
      let sends : Interacts (client_ghosts health trails) parts (came_to step.it (Ok result)) mid =
      subst (λ n. Interacts (client_ghosts health trails) parts
      (Made (came_as n step.it.key.request (Ok result))) mid) (sym to)
      (counted health trails server step.it.key.request result parts mid is_sent_out counts) in
      record {
        taken = by_session none (record {
          it = step.it;
          at = step.at;
          to = to;
          then = step.then;
          act = (
            act.lost done refl refl (subst
                (λ c. IsLoss c old.session done new.session) config step.loss)
                (ap (client_at Short) same),
            gains_append (gains_one sends) step.gains,
          );
        });
        takes = session_takes server None old new none sent without (ap awaited_in step.between);
        left = short_left old new parts after without step.between
            (between_ready after.config new.session step.between)
            (stayed_on (one_stays counts) stays);
      }

  -- what came of a request for keys was taken
  pub keys_taken : (unsent : Bool) (server : ℕ) (result : Result Outcome ExchangeNoMemory)
      (old : Answering) (keys now : KeysState) (parts after : Parts H (List ℕ) T C)
      → IsAnsweringReady parts.config old → old.keys ≡ Some keys
      → HaveActedOnOutcome (client_ghosts health trails) unsent server result (keys, parts)
      (now, after) → HasStayed servers parts after
      → IsTakenAs (client_ghosts health trails) servers unsent server result went.On (old, parts)
      (record old { keys = Some now }, after)
  keys_taken unsent server result old keys now parts after ready are come stays =
      let at = handed_at ready are in record {
        taken = by_keys (record {
          keys = keys;
          are = are;
          send = come.send;
          is = come.is;
          then = come.then;
          calls = come.calls;
          gains = record {
            leads = keys_lead (client_ghosts health trails) parts.config old keys now
                parts after ((came_by result keys.slots come.send ++ come.then) ∷ come.calls) at are
                come.gains.leads;
          };
        });
        takes = keys_takes server None old keys now are come.takes;
        left = keys_left went.On old keys now parts parts after ready at refl
            (record { request = tt; goes = tt; ready = come.ready })
            (λ next is. absurd (let no : ⊥ = cc in no)) stays;
      }

  -- memory ran out for the session's send
  pub session_stopped : (unsent : Bool) (server : ℕ) (old new : Answering)
      (parts after : Parts H (List ℕ) T C) → old.keys ≡ None → IsSentTo old.session.work server
      → slice_index parts.backend.links server ≢ most_sends
      → new ≡ record old { session = dropped old.session; told = new.told }
      → ((it : SentKey) → old.session.work ≡ work.Awaits it
      → after ≡ with_noted it.awaited.attempts parts) → HasStayed servers parts after
      → IsTakenAs (client_ghosts health trails) servers unsent server
      (Err (record { sent = false })) went.Short (old, parts) (new, after)
  session_stopped unsent server old new parts after none sent room same noted stays =
      let session : new.session ≡ dropped old.session = ap (λ (it : Answering). it.session) same in
      let without : new.keys ≡ None = ap (λ (it : Answering). it.keys) same ∙ none in
      let between : new.session.work ≡ work.Between = ap (λ (s : SessionState). s.work) session in
      let then : List Interaction = Noted sent.it.awaited.attempts ∷ [] in
      let done = came_to sent.it (Err (record { sent = false })) ∷ then in
      let sends : Interacts (client_ghosts health trails) parts
      (came_to sent.it (Err (record { sent = false }))) parts =
      subst (λ n. Interacts (client_ghosts health trails) parts
      (Made (came_as n sent.it.key.request (Err (record { sent = false })))) parts)
      (sym sent.to)
      (uncounted health trails server sent.it.key.request parts room) in record {
        taken = by_session none (record {
          it = sent.it;
          at = sent.is;
          to = sent.to;
          then = then;
          act = (
            act.lost done refl refl (act.stopped sent.it false sent.is session refl)
                (ap (client_at Short) same
                ∙ ap (λ s. client_at Short (record old { session = s })) (sym session)),
            gains_append (gains_one sends) (gains_one (noted sent.it sent.is)),
          );
        });
        takes = session_takes server None old new none sent without (ap awaited_in between);
        left = short_left old new parts after without between
            (between_ready after.config new.session between) stays;
      }
