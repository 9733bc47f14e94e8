-- Laws of a session that is driven over its parts: what each call of it, and each send, adds to how
-- far its next item came.
use Rattle.std.proofs.Common.{◌≡◌, ◌<◌, ℕ, true, false, List, [], ◌∷◌, ◌++◌, length, map, Result}
use Rattle.std.proofs.Common.{Ok, refl, sym, ap, subst, ◌∙◌}
use Rattle.tko_model.specs.Records.{Gains}
use Rattle.tko_model.proofs.RecordLemmas.{gains_append, gains_one}
use Rattle.tko_health.specs.declared.health.Health.{Ghosts as HealthGhosts}
use Rattle.tko_links.specs.declared.links.Links.{Ghosts as LinksGhosts}
use Rattle.tko_links.specs.declared.links.ExchangeNoMemory.{ExchangeNoMemory}
use Rattle.tko_links.specs.declared.links.Outcome.{Outcome}
use Rattle.tko_pools.specs.Configs.{Configuration}
use Rattle.tko_io.specs.declared.clock.Clock.{Ghosts as ClockGhosts}
use Rattle.tko_text.specs.declared.fault.TextFault.{TextFault}
use Rattle.tko_text.specs.declared.request.Request.{Request}
use Rattle.tko_route.specs.Calls.{IsExchange, RoutedCall, Upstream, upstream}
use Rattle.tko_route.specs.declared.attempt.Attempt.{Attempt}
use Rattle.tko_route.specs.declared.routing.Stage.{Stage}
use Rattle.tko_route.specs.declared.routing.Stage.TheVariants as stage
use Rattle.tko_reply.specs.Ghosts.{parts_ghosts}
use Rattle.tko_reply.specs.Interactions.{Interaction, Interacts, Made, Recorded, with_health}
use Rattle.tko_reply.specs.Interactions.{with_links, with_noted}
use Rattle.tko_reply.specs.Replies.{reply_bound}
use Rattle.tko_reply.specs.TrailEvents.{Asked, Tried}
use Rattle.tko_reply.specs.declared.parts.Parts.{Parts}
use Rattle.tko_reply.specs.declared.trails.Trails.{Ghosts as TrailsGhosts}
use Rattle.tko_reply.proofs.InteractionLemmas.{config_kept}
use Rattle.tko_session.specs.Acts.{came_to}
use Rattle.tko_session.specs.Driven.{OutcomeTaken, WentOn, step_of}
use Rattle.tko_session.specs.AnswerEnds.{IsSettled}
use Rattle.tko_session.specs.SessionState.{SessionState, Snapshot, progress_after, snapshot}
use Rattle.tko_session.specs.declared.step.Progress.{Progress}
use Rattle.tko_session.specs.declared.step.Step.{Step}
use Rattle.tko_session.specs.declared.step.Step.TheVariants as step
use Rattle.tko_session.proofs.FollowingLemmas.{IsOn, IsOnAt, IsOutFor, IsOver, IsPastFor, IsTaken}
use Rattle.tko_session.proofs.FollowingLemmas.{IsTriedFor, on_item}
use Rattle.tko_session.proofs.ItemLemmas.{asked_went, out_took, past_went, read_went, taken_asked}
use Rattle.tko_session.proofs.ItemLemmas.{tried_past}
use Rattle.tko_session.proofs.ItemStateLemmas.{IsAskedAt, IsItem, IsItemAt}

-- the server that the permission names is the one that the key waits for
pub sent_to : {H L : Type 0} {servers : Upstream H L} {old new : L} {clear server : ℕ}
    {request : Request} {result : Result Outcome ExchangeNoMemory} → clear ≡ server
    → IsExchange servers old (record { server = clear; request = request; result = result }) new
    → IsExchange servers old (record { server = server; request = request; result = result }) new
sent_to {servers = servers} {old = old} {new = new} {request = request}
    {result = result} names exchange =
    subst (λ n. IsExchange servers old
    (record { server = n; request = request; result = result }) new) names exchange

something : {one : Interaction} {more : List Interaction} → one ∷ more ≡ [] → ⊥
something same = cc

something_before : {one : Interaction} {done was : List Interaction} (more : List Interaction)
    → done ≡ one ∷ was → done ++ more ≡ [] → ⊥
something_before {one} {done} {was} more are same =
    let all : one ∷ (was ++ more) ≡ [] = sym (ap (λ ds. ds ++ more) are) ∙ same in
    something all

module _ {H L T C : Type 0} (health : HealthGhosts H) (links : LinksGhosts L)
    (trails : TrailsGhosts T) (clock : ClockGhosts C) where
  -- the next item was read
  pub read_on : {old : Snapshot (Parts H L T C)} (calls : List RoutedCall) {said : Step}
      {new : SessionState} (after : Parts H L T C) → IsSettled old.state
      → length old.state.outbox < reply_bound → WentOn old.parts.config old.state calls said new
      → Gains (Interacts (parts_ghosts health links trails clock)) old.parts (map Made calls) after
      → IsOn health links trails clock old said (snapshot new after)
  read_on {old} calls {said} {new} after settled room on gains =
      on_item health links trails clock {now = snapshot new after} said (λ none. settled.between)
      settled.unowed room gains (read_went true calls settled.between on)

  -- the request that was read was recorded
  pub recorded_asked : {old now : Snapshot (Parts H L T C)}
      → (taken : IsTaken health links trails clock old now)
      → IsAskedAt old.state true (Recorded (Asked taken.it) ∷ []) now.state
  recorded_asked {old} {now} taken =
      subst (λ owes. IsAskedAt old.state owes (Recorded (Asked taken.it) ∷ []) now.state)
      (ap (λ (s : SessionState). s.owes) taken.state)
      (taken_asked (record { it = taken.it; emits = taken.emits; state = taken.state }))

  pub recorded_gains : {old now : Snapshot (Parts H L T C)} {told : T}
      → (taken : IsTaken health links trails clock old now)
      → trails.records now.parts.trails (Asked taken.it) told
      → Gains (Interacts (parts_ghosts health links trails clock)) old.parts
      (Recorded (Asked taken.it) ∷ []) (record now.parts { trails = told })
  recorded_gains {old} {now} {told} taken recorded =
      let gains : Gains (Interacts (parts_ghosts health links trails clock)) now.parts
      (Recorded (Asked taken.it) ∷ []) (record now.parts { trails = told }) =
      gains_one (recorded, refl) in
      subst (λ p. Gains (Interacts (parts_ghosts health links trails clock)) p
      (Recorded (Asked taken.it) ∷ []) (record now.parts { trails = told })) taken.parts gains

  -- and begun
  pub taken_on : {old now : Snapshot (Parts H L T C)} {told : T}
      (calls : List RoutedCall) {said : Step} {new : SessionState} (after : Parts H L T C)
      → old.state.owes ≡ false → length old.state.outbox < reply_bound
      → (taken : IsTaken health links trails clock old now)
      → trails.records now.parts.trails (Asked taken.it) told
      → WentOn now.parts.config now.state calls said new
      → Gains (Interacts (parts_ghosts health links trails clock))
      (record now.parts { trails = told }) (map Made calls) after
      → IsOn health links trails clock old said (snapshot new after)
  taken_on {old} {now} calls {said} {new} after none room taken recorded on gains =
      on_item health links trails clock {now = snapshot new after} said
      (λ no. absurd (something no)) none room
      (gains_append (recorded_gains taken recorded) gains)
      (asked_went calls (recorded_asked taken)
      (subst (λ (p : Parts H L T C). WentOn p.config now.state calls said new) taken.parts on))

  -- the trail of a key was recorded
  past_for : {old now : Snapshot (Parts H L T C)} {trail : List Attempt} {told : T}
      → IsTriedFor health links trails clock old trail now
      → trails.records now.parts.trails (Tried trail) told
      → IsPastFor health links trails clock old
      (snapshot now.state (record (with_noted trail now.parts) { trails = told }))
  past_for {old} {now} {trail} {told} tried recorded =
      let gains : Gains (Interacts (parts_ghosts health links trails clock)) now.parts
      (Recorded (Tried trail) ∷ []) (record (with_noted trail now.parts) { trails = told }) =
      gains_one (recorded, refl) in
      record {
        done = tried.done ++ Recorded (Tried trail) ∷ [];
        gains = gains_append tried.gains gains;
        past = tried_past tried.tried;
      }

  pub past_told : {old now : Snapshot (Parts H L T C)} {trail : List Attempt} {session :
      SessionState} {parts : Parts H L T C} → IsTriedFor health links trails clock old trail now
      → trails.records now.parts.trails (Tried trail) parts.trails → parts
      ≡ record (with_noted trail now.parts) { trails = parts.trails } → session ≡ now.state
      → IsPastFor health links trails clock old (snapshot session parts)
  past_told {old} {now} {trail} {session} {parts} tried recorded noted same =
      subst (λ (s : SessionState). IsPastFor health links trails clock old (snapshot s parts))
      (sym same)
      (subst (λ (p : Parts H L T C). IsPastFor health links trails clock old (snapshot now.state p))
      (sym noted) (past_for tried recorded))

  -- the session went on after a key
  pub past_on : {old now : Snapshot (Parts H L T C)} (calls : List RoutedCall) {said : Step}
      {new : SessionState} (after : Parts H L T C)
      → old.state.owes ≡ false → length old.state.outbox < reply_bound
      → IsPastFor health links trails clock old now
      → WentOn now.parts.config now.state calls said new
      → Gains (Interacts (parts_ghosts health links trails clock)) now.parts (map Made calls) after
      → IsOn health links trails clock old said (snapshot new after)
  past_on {old} {now} calls {said} {new} after none room it on gains =
      on_item health links trails clock {now = snapshot new after} said
      (λ no. absurd (something_before (map Made calls) it.past.are no)) none room
      (gains_append it.gains gains)
      (past_went calls it.past (subst (λ (c : Configuration). WentOn c now.state calls said new)
      (config_kept (parts_ghosts health links trails clock) it.gains) on))

  -- the answer to a key came so far
  key_on : {done : List Interaction} (old now : Snapshot (Parts H L T C)) (at : Stage)
      → Gains (Interacts (parts_ghosts health links trails clock)) old.parts done now.parts
      → IsItemAt old.parts.config old.state true done (step_of at) now.state
      → IsOnAt health links trails clock old (step_of at) now
  key_on {done} old now (stage.Away clear awaited) gains it =
      record { done = done; gains = gains; sent = it.0; at = it.1.at; out = it.1 }
  key_on {done} old now (stage.Done trail) gains it =
      record { done = done; gains = gains; tried = it }

  -- what came of a send was recorded
  pub outcome_on : {old now : Snapshot (Parts H L T C)} {clear : ℕ} {mid : L} {got : Outcome}
      {calls : List RoutedCall} {said : Step} {new : SessionState} (after : Parts H L T C)
      → (out : IsOutFor health links trails clock old clear now)
      → IsExchange (upstream health links) now.parts.backend.links
      (record { server = clear; request = out.sent.key.request; result = Ok got }) mid
      → ((server : ℕ) → links.probed mid server ≡ links.probed now.parts.backend.links server)
      → OutcomeTaken now.parts.config out.sent got now.state calls said new
      → Gains (Interacts (parts_ghosts health links trails clock)) (with_links mid now.parts)
      (map Made calls) after
      → IsOn health links trails clock old said (snapshot new after)
  outcome_on {old} {now} {clear} {mid} {got} {calls} {said} {new} after out exchange unprobed
      outcome gains =
      let ghosts = parts_ghosts health links trails clock in
      let it = out.sent in
      let sent : Interacts ghosts now.parts (came_to it (Ok got)) (with_links mid now.parts) =
      (sent_to out.out.stands.reached.1 exchange, unprobed, refl) in
      let item = out_took out.out (subst (λ (c : Configuration).
      OutcomeTaken c it got now.state calls said new) (config_kept ghosts out.gains) outcome) in
      let at = outcome.at in
      subst (λ s. IsOn health links trails clock old s (snapshot new after)) (sym outcome.says)
      (record {
        on = key_on old
            (snapshot new after) at (gains_append out.gains (gains_append (gains_one sent) gains))
            (subst (λ s. IsItem old.parts.config old.state true
            (out.done ++ came_to it (Ok got) ∷ map Made calls) s new) outcome.says item).on;
      })

  -- the same over the parts after the send, with what health then was asked and told
  pub sent_on_after : {old now : Snapshot (Parts H L T C)} {sent : Parts H L T C} {clear : ℕ} {mid :
      L} {got : Outcome} {calls : List RoutedCall} {said : Step} {new : SessionState} (after : H)
      → sent ≡ with_links mid now.parts → (out : IsOutFor health links trails clock old clear now)
      → IsExchange (upstream health links) now.parts.backend.links
      (record { server = clear; request = out.sent.key.request; result = Ok got }) mid
      → ((server : ℕ) → links.probed mid server ≡ links.probed now.parts.backend.links server)
      → OutcomeTaken sent.config out.sent got now.state calls said new
      → Gains (Interacts (parts_ghosts health links trails clock)) sent (map Made calls)
      (with_health after sent)
      → IsOn health links trails clock old said (snapshot new (with_health after sent))
  sent_on_after {old} {now} {sent} {clear} {mid} {got} {calls} {said}
      {new} after is out exchange unprobed =
      subst (λ (p : Parts H L T C). OutcomeTaken p.config out.sent got now.state calls said new
      → Gains (Interacts (parts_ghosts health links trails clock)) p (map Made calls)
      (with_health after p)
      → IsOn health links trails clock old said (snapshot new (with_health after p))) (sym is)
      (outcome_on (with_health after (with_links mid now.parts)) out exchange unprobed)

module _ {H L T C : Type 0} {health : HealthGhosts H} {links : LinksGhosts L} {trails : TrailsGhosts
    T} {clock : ClockGhosts C} {old now : Snapshot (Parts H L T C)} {said : Step} where
  -- what a session is at that said this
  pub on_at : {at : Progress} → said ≡ step.At at → IsOn health links trails clock old said now
      → IsOver health links trails clock at old now
  on_at is it = subst (λ s. IsOnAt health links trails clock old s now) is it.on

  pub on_refused : {fault : TextFault} → said ≡ step.Refused fault
      → IsOn health links trails clock old said now
      → IsOver health links trails clock (progress_after fault) old now
  on_refused is it = subst (λ s. IsOnAt health links trails clock old s now) is it.on

  pub on_began : said ≡ step.Began → IsOn health links trails clock old said now
      → IsTaken health links trails clock old now
  on_began is it = subst (λ s. IsOnAt health links trails clock old s now) is it.on

  pub on_tried : {trail : List Attempt}
      → said ≡ step.Tried trail → IsOn health links trails clock old said now
      → IsTriedFor health links trails clock old trail now
  on_tried is it = subst (λ s. IsOnAt health links trails clock old s now) is it.on

  pub on_asks : {clear : ℕ} → said ≡ step.Asks clear → IsOn health links trails clock old said now
      → IsOutFor health links trails clock old clear now
  on_asks is it = subst (λ s. IsOnAt health links trails clock old s now) is it.on

pub same_ok : {E : Type 0} (at other : Progress) (result : Result Progress E) → result ≡ Ok at
    → result ≡ Ok other → at ≡ other
same_ok at other result is same = cc
