-- Laws of a session that is driven over its parts, where memory runs out.
use Rattle.std.proofs.Common.{◌≡◌, ℕ, Bool, false, List, [], ◌∷◌, map, Ok, Err, refl, sym, ap}
use Rattle.std.proofs.Common.{subst, ◌∙◌}
use Rattle.tko_model.specs.Records.{Gains}
use Rattle.tko_model.proofs.RecordLemmas.{gains_append, gains_none, gains_one}
use Rattle.tko_health.specs.declared.health.Health.{Ghosts as HealthGhosts}
use Rattle.tko_links.specs.declared.links.Links.{Ghosts as LinksGhosts}
use Rattle.tko_links.specs.declared.links.Outcome.{Outcome}
use Rattle.tko_pools.specs.Configs.{Configuration}
use Rattle.tko_io.specs.declared.clock.Clock.{Ghosts as ClockGhosts}
use Rattle.tko_route.specs.Calls.{IsExchange, RoutedCall, upstream}
use Rattle.tko_route.specs.declared.attempt.Attempt.{Attempt}
use Rattle.tko_reply.specs.Ghosts.{PartsGhosts, parts_ghosts}
use Rattle.tko_reply.specs.Interactions.{Interacts, Made, Noted, marks_of, with_health, with_links}
use Rattle.tko_reply.specs.Interactions.{with_noted}
use Rattle.tko_reply.specs.TrailEvents.{Asked}
use Rattle.tko_reply.specs.declared.parts.Parts.{Parts}
use Rattle.tko_reply.specs.declared.trails.Trails.{Ghosts as TrailsGhosts}
use Rattle.tko_reply.proofs.InteractionLemmas.{config_kept}
use Rattle.tko_session.specs.Acts.{came_to}
use Rattle.tko_session.specs.Driven.{OutcomeDropped, WasDropped, dropped}
use Rattle.tko_session.specs.Effects.{effects}
use Rattle.tko_session.specs.Events.{Effects}
use Rattle.tko_session.specs.AnswerEnds.{DriveEnds, IsSettled, ItemEnds}
use Rattle.tko_session.specs.SessionState.{SessionState, Snapshot, snapshot}
use Rattle.tko_session.specs.declared.step.Progress.{Progress}
use Rattle.tko_session.proofs.DrivenLemmas.{recorded_asked, recorded_gains, sent_to}
use Rattle.tko_session.proofs.FollowingLemmas.{IsCut, IsOutFor, IsOver, IsPastFor, IsTaken}
use Rattle.tko_session.proofs.FollowingLemmas.{IsTriedFor, cut_item}
use Rattle.tko_session.proofs.ItemCutLemmas.{IsCutAt, asked_cut, out_cut, out_stopped, past_cut_at}
use Rattle.tko_session.proofs.ItemCutLemmas.{read_cut_at, taken_lost, tried_lost}

-- the marks of attempts were noted, if there are any
marks_gained : {H L T C : Type 0} (ghosts : PartsGhosts H L T C) (old : Parts H L T C)
    (attempts : List Attempt)
    → Gains (Interacts ghosts) old (marks_of attempts) (with_noted attempts old)
marks_gained ghosts old [] = gains_none old
marks_gained ghosts old (one ∷ attempts) = gains_one refl

module _ {H L T C : Type 0} (health : HealthGhosts H) (links : LinksGhosts L)
    (trails : TrailsGhosts T) (clock : ClockGhosts C) where
  -- the next item was read
  pub read_cut : {old : Snapshot (Parts H L T C)} (calls : List RoutedCall)
      (attempts : List Attempt) {new : SessionState} (after : Parts H L T C) → IsSettled old.state
      → WasDropped old.parts.config old.state calls attempts new
      → Gains (Interacts (parts_ghosts health links trails clock)) old.parts (map Made calls) after
      → IsCut health links trails clock old (snapshot new (with_noted attempts after))
  read_cut {old} calls attempts {new} after settled lost gains =
      cut_item health links trails clock {new = snapshot new (with_noted attempts after)}
      settled.unowed
      (gains_append gains (marks_gained (parts_ghosts health links trails clock) after attempts))
      (read_cut_at _ calls attempts settled.between lost)

  -- a request was not recorded
  pub unrecorded_cut : {old now : Snapshot (Parts H L T C)} {attempts : List Attempt}
      {new : SessionState} → old.state.owes ≡ false → IsTaken health links trails clock old now
      → attempts ≡ [] → new ≡ dropped now.state
      → IsCut health links trails clock old (snapshot new (with_noted attempts now.parts))
  unrecorded_cut {old} {now} {attempts} {new} none it no_attempts is =
      let owed = ap (λ (s : SessionState). s.owes) it.state in
      let at = subst (λ owes. IsCutAt old.parts.config old.state owes [] new) owed
      (taken_lost (record { it = it.it; emits = it.emits; state = it.state }) is) in
      subst (λ p. IsCut health links trails clock old (snapshot new p))
      (sym (ap (λ marked. with_noted marked now.parts) no_attempts ∙ it.parts))
      (cut_item health links trails clock {new = snapshot new old.parts} none
      (gains_none old.parts) at)

  -- a request was recorded and begun
  pub taken_cut : {old now : Snapshot (Parts H L T C)} {told : T} (calls : List RoutedCall)
      (attempts : List Attempt) {new : SessionState} (after : Parts H L T C)
      → old.state.owes ≡ false
      → (it : IsTaken health links trails clock old now)
      → trails.records now.parts.trails (Asked it.it) told
      → WasDropped now.parts.config now.state calls attempts new
      → Gains (Interacts (parts_ghosts health links trails clock))
      (record now.parts { trails = told }) (map Made calls) after
      → IsCut health links trails clock old (snapshot new (with_noted attempts after))
  taken_cut {old} {now} calls attempts {new} after none it recorded lost gains =
      cut_item health links trails clock {new = snapshot new (with_noted attempts after)} none
      (gains_append (recorded_gains health links trails clock it recorded) (gains_append gains
      (marks_gained (parts_ghosts health links trails clock) after attempts)))
      (asked_cut calls attempts (recorded_asked health links trails clock it)
      (subst (λ (p : Parts H L T C). WasDropped p.config now.state calls attempts new)
      it.parts lost))

  -- a trail was not recorded
  pub unkept_cut : {old now : Snapshot (Parts H L T C)} {trail attempts : List Attempt}
      {new : SessionState} (parts : Parts H L T C) → old.state.owes ≡ false
      → IsTriedFor health links trails clock old trail now → attempts ≡ [] → new ≡ dropped now.state
      → parts ≡ with_noted trail now.parts
      → IsCut health links trails clock old (snapshot new (with_noted attempts parts))
  unkept_cut {old} {now} {trail} {attempts} {new} parts none it no_attempts is noted =
      subst (λ p. IsCut health links trails clock old (snapshot new p))
      (sym (ap (λ marked. with_noted marked parts) no_attempts ∙ noted))
      (cut_item health links trails clock {new = snapshot new (with_noted trail now.parts)} none
      (gains_append it.gains (gains_one refl)) (tried_lost it.tried is))

  -- after a trail was recorded
  pub past_lost : {old now : Snapshot (Parts H L T C)} (calls : List RoutedCall)
      (attempts : List Attempt) {new : SessionState} (after : Parts H L T C)
      → old.state.owes ≡ false
      → IsPastFor health links trails clock old now
      → WasDropped now.parts.config now.state calls attempts new
      → Gains (Interacts (parts_ghosts health links trails clock)) now.parts (map Made calls) after
      → IsCut health links trails clock old (snapshot new (with_noted attempts after))
  past_lost {old} {now} calls attempts {new} after none it lost gains =
      let ghosts = parts_ghosts health links trails clock in
      cut_item health links trails clock {new = snapshot new (with_noted attempts after)} none
      (gains_append it.gains (gains_append gains (marks_gained ghosts after attempts)))
      (past_cut_at calls attempts it.past (subst (λ (c : Configuration).
      WasDropped c now.state calls attempts new) (config_kept ghosts it.gains) lost))

  -- where the outcome was recorded
  pub outcome_cut : {old now : Snapshot (Parts H L T C)} {clear : ℕ} {mid : L}
      {got : Outcome} {calls : List RoutedCall} {attempts : List Attempt} {new : SessionState}
      (after : Parts H L T C) → old.state.owes ≡ false
      → (out : IsOutFor health links trails clock old clear now)
      → IsExchange (upstream health links) now.parts.backend.links
      (record { server = clear; request = out.sent.key.request; result = Ok got }) mid
      → ((server : ℕ) → links.probed mid server ≡ links.probed now.parts.backend.links server)
      → OutcomeDropped now.parts.config out.sent got now.state calls attempts new
      → Gains (Interacts (parts_ghosts health links trails clock)) (with_links mid now.parts)
      (map Made calls) after
      → IsCut health links trails clock old (snapshot new (with_noted attempts after))
  outcome_cut {old} {now} {clear} {mid} {got} {calls} {attempts}
      {new} after none out exchange unprobed lost gains =
      let ghosts = parts_ghosts health links trails clock in
      let it = out.sent in
      let sent : Interacts ghosts now.parts (came_to it (Ok got)) (with_links mid now.parts) =
      (sent_to out.out.stands.reached.1 exchange, unprobed, refl) in
      cut_item health links trails clock {new = snapshot new (with_noted attempts after)} none
      (gains_append out.gains
      (gains_append (gains_one sent) (gains_append gains (marks_gained ghosts after attempts))))
      (out_cut out.out (subst (λ (c : Configuration). OutcomeDropped c it got now.state calls
      attempts new) (config_kept ghosts out.gains) lost))

  -- at the send
  pub stop_cut : {old now : Snapshot (Parts H L T C)} {clear : ℕ} {mid : L} {was_sent : Bool}
      {attempts : List Attempt} {new : SessionState} → old.state.owes ≡ false
      → (out : IsOutFor health links trails clock old clear now)
      → IsExchange (upstream health links) now.parts.backend.links (record {
        server = clear;
        request = out.sent.key.request;
        result = Err (record { sent = was_sent });
      }) mid
      → ((server : ℕ) → links.probed mid server ≡ links.probed now.parts.backend.links server)
      → new ≡ dropped now.state → attempts ≡ out.sent.awaited.attempts
      → IsCut health links trails clock old
      (snapshot new (with_noted attempts (with_links mid now.parts)))
  stop_cut {old} {now} {clear} {mid} {was_sent} {attempts} {new} none out exchange unprobed is
      attempts_are =
      let ghosts = parts_ghosts health links trails clock in
      let it = out.sent in
      let sent : Interacts ghosts now.parts
      (came_to it (Err (record { sent = was_sent }))) (with_links mid now.parts) =
      (sent_to out.out.stands.reached.1 exchange, unprobed, refl) in
      let noted : Interacts ghosts (with_links mid now.parts) (Noted it.awaited.attempts)
      (with_noted it.awaited.attempts (with_links mid now.parts)) = refl in
      subst (λ marked. IsCut health links trails clock old
      (snapshot new (with_noted marked (with_links mid now.parts)))) (sym attempts_are)
      (cut_item health links trails clock
      {new = snapshot new (with_noted it.awaited.attempts (with_links mid now.parts))} none
      (gains_append out.gains (gains_append (gains_one sent) (gains_one noted)))
      (out_stopped was_sent out.out is))

  -- the same two over the parts after the send: where the outcome was recorded, with what health
  -- then
  -- was asked and told
  pub sent_cut_after : {old now : Snapshot (Parts H L T C)} {sent : Parts H L T C}
      {clear : ℕ} {mid : L} {got : Outcome} {calls : List RoutedCall} {attempts : List Attempt}
      {new : SessionState} (after : H)
      → sent ≡ with_links mid now.parts → old.state.owes ≡ false
      → (out : IsOutFor health links trails clock old clear now)
      → IsExchange (upstream health links) now.parts.backend.links
      (record { server = clear; request = out.sent.key.request; result = Ok got }) mid
      → ((server : ℕ) → links.probed mid server ≡ links.probed now.parts.backend.links server)
      → OutcomeDropped sent.config out.sent got now.state calls attempts new
      → Gains (Interacts (parts_ghosts health links trails clock)) sent (map Made calls)
      (with_health after sent)
      → IsCut health links trails clock old
      (snapshot new (with_noted attempts (with_health after sent)))
  sent_cut_after {old} {now} {sent} {clear} {mid} {got} {calls} {attempts}
      {new} after is none out exchange unprobed =
      subst (λ (p : Parts H L T C).
      OutcomeDropped p.config out.sent got now.state calls attempts new
      → Gains (Interacts (parts_ghosts health links trails clock)) p (map Made calls)
      (with_health after p)
      → IsCut health links trails clock old
      (snapshot new (with_noted attempts (with_health after p)))) (sym is)
      (outcome_cut (with_health after (with_links mid now.parts)) none out exchange unprobed)

  -- and at the send
  pub stop_cut_after : {old now : Snapshot (Parts H L T C)} {sent : Parts H L T C} {clear : ℕ}
      {mid : L} {was_sent : Bool} {attempts : List Attempt} {new : SessionState}
      → sent ≡ with_links mid now.parts → old.state.owes ≡ false
      → (out : IsOutFor health links trails clock old clear now)
      → IsExchange (upstream health links) now.parts.backend.links (record {
        server = clear;
        request = out.sent.key.request;
        result = Err (record { sent = was_sent });
      }) mid
      → ((server : ℕ) → links.probed mid server ≡ links.probed now.parts.backend.links server)
      → new ≡ dropped now.state → attempts ≡ out.sent.awaited.attempts
      → IsCut health links trails clock old (snapshot new (with_noted attempts sent))
  stop_cut_after {old} {now} {sent} {clear} {mid} {was_sent} {attempts}
      {new} is none out exchange unprobed was_dropped attempts_are =
      subst (λ (p : Parts H L T C).
      IsCut health links trails clock old (snapshot new (with_noted attempts p))) (sym is)
      (stop_cut none out exchange unprobed was_dropped attempts_are)

-- an item that was answered, over parts that are these
pub over_there : {H L T C : Type 0} {does : Effects (Parts H L T C)} {old : Snapshot (Parts H L T C)}
    (state : SessionState) {parts now : Parts H L T C} {at told : Progress} → told ≡ at
    → now ≡ parts → ItemEnds does old (Ok at) (snapshot state parts)
    → ItemEnds does old (Ok told) (snapshot state now)
over_there state is same ends = rw (is, same) ends

module _ {H L T C : Type 0} {health : HealthGhosts H} {links : LinksGhosts L}
    {trails : TrailsGhosts T} {clock : ClockGhosts C} where
  -- driving an item ends so
  pub cut_ends : {old : Snapshot (Parts H L T C)} {new : SessionState}
      (attempts : List Attempt) (parts : Parts H L T C)
      → IsCut health links trails clock old (snapshot new (with_noted attempts parts))
      → DriveEnds (effects health links trails clock) old (Err attempts) (snapshot new parts)
  cut_ends attempts parts cut =
      λ fault. record { ends = cut.part; unowed = cut.unowed; between = cut.between }

  pub over_ends : {old now : Snapshot (Parts H L T C)} {at : Progress}
      → IsOver health links trails clock at old now
      → DriveEnds (effects health links trails clock) old (Ok at) now
  over_ends over = record { ends = over.answered; unowed = over.unowed; between = over.between }

module _ {H L T C : Type 0} {health : HealthGhosts H} {links : LinksGhosts L}
    {trails : TrailsGhosts T} {clock : ClockGhosts C} where
  -- where a request was not recorded
  pub unrecorded_ends : {old now : Snapshot (Parts H L T C)} {new : SessionState} {told : T}
      (attempts : List Attempt) → old.state.owes ≡ false → IsTaken health links trails clock old now
      → attempts ≡ [] → new ≡ dropped now.state → told ≡ now.parts.trails
      → DriveEnds (effects health links trails clock) old (Err attempts)
      (snapshot new (record now.parts { trails = told }))
  unrecorded_ends {old} {now} {new} {told} attempts none it no_attempts is same =
      subst (λ t. DriveEnds (effects health links trails clock) old (Err attempts)
      (snapshot new (record now.parts { trails = t }))) (sym same)
      (cut_ends attempts now.parts
      (unrecorded_cut health links trails clock none it no_attempts is))
