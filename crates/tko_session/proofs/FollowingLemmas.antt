-- How far the next item of a session came, over the parts that it is driven over.
use Rattle.std.proofs.Common.{◌≡◌, ◌<◌, ℕ, Bool, true, false, List, [], ◌++◌, length, refl, sym}
use Rattle.std.proofs.Common.{subst, ◌∙◌}
use Rattle.tko_model.specs.Records.{Gains}
use Rattle.tko_health.specs.declared.health.Health.{Ghosts as HealthGhosts}
use Rattle.tko_links.specs.declared.links.Links.{Ghosts as LinksGhosts}
use Rattle.tko_io.specs.declared.clock.Clock.{Ghosts as ClockGhosts}
use Rattle.tko_text.specs.Reading.{Emits, NeedsMore}
use Rattle.tko_text.specs.declared.item.Item.TheVariants as item
use Rattle.tko_text.specs.declared.request.Request.{Request}
use Rattle.tko_text.specs.Requests.{fault_text}
use Rattle.tko_route.specs.declared.attempt.Attempt.{Attempt}
use Rattle.tko_reply.specs.Ghosts.{parts_ghosts}
use Rattle.tko_reply.specs.Interactions.{Interaction, Interacts}
use Rattle.tko_reply.specs.Replies.{reply_bound}
use Rattle.tko_reply.specs.Standing.{SentKey, whole_of}
use Rattle.tko_reply.specs.declared.parts.Parts.{Parts}
use Rattle.tko_reply.specs.declared.trails.Trails.{Ghosts as TrailsGhosts}
use Rattle.tko_reply.proofs.InteractionLemmas.{performs}
use Rattle.tko_session.specs.Driven.{with_request_read}
use Rattle.tko_session.specs.Effects.{effects}
use Rattle.tko_session.specs.SessionState.{AnsweredPart, HasAnswered, Replied, SessionState}
use Rattle.tko_session.specs.SessionState.{Snapshot, progress_after, snapshot}
use Rattle.tko_session.specs.Turns.{IsRequestCut, IsSessionTurn}
use Rattle.tko_session.specs.Turns as turn
use Rattle.tko_session.specs.declared.step.Progress.{Progress}
use Rattle.tko_session.specs.declared.step.Progress.TheVariants as progress
use Rattle.tko_session.specs.declared.step.Step.{Step}
use Rattle.tko_session.specs.declared.step.Step.TheVariants as step
use Rattle.tko_session.specs.Working as work
use Rattle.tko_session.proofs.ItemCutLemmas.{IsCutAt, request_cut, unasked}
use Rattle.tko_session.proofs.ItemStateLemmas.{IsItem, IsOutAt, IsOverAt, IsPastAt, IsRepliedAt}
use Rattle.tko_session.proofs.ItemStateLemmas.{IsTriedAt, refused, replied, undecided}
use Rattle.tko_session.proofs.AnsweredLemmas.{answered_open, part_cut, part_none}
use Rattle.tko_session.proofs.ItemAnsweredLemmas.{answered_fault, answered_request}

pub owed_or_not : {owes : Bool} → owes ≡ true → owes ≡ false → ⊥
owed_or_not owed unowed = cc

module _ {H L T C : Type 0} (health : HealthGhosts H) (links : LinksGhosts L)
    (trails : TrailsGhosts T) (clock : ClockGhosts C) where
  -- the next item was answered, or none is decided
  pub record IsOver (at : Progress) (old now : Snapshot (Parts H L T C)) : Type 0 where
    pub answered : HasAnswered (effects health links trails clock) at old now
    pub more : at ≡ progress.More → ¬ NeedsMore old.state.reading
    pub unowed : now.state.owes ≡ false → now.parts.backend.probers ≡ old.parts.backend.probers
    pub between : now.state.work ≡ work.Between

  -- memory ran out at the next item, and nothing of its reply is left
  pub record IsCut (old new : Snapshot (Parts H L T C)) : Type 0 where
    pub part : AnsweredPart (effects health links trails clock) old new
    pub unowed : new.state.owes ≡ false → new.parts.backend.probers ≡ old.parts.backend.probers
    pub between : new.state.work ≡ work.Between

  -- the next item is a request, which was read and not recorded
  pub record IsTaken (old now : Snapshot (Parts H L T C)) : Type 0 where
    pub it : Request
    pub emits : Emits old.state.reading (item.Request it) now.state.reading
    pub parts : now.parts ≡ old.parts
    pub state : now.state
        ≡ with_request_read (whole_of it) (record old.state { reading = now.state.reading })

  -- a send is out for it
  pub record IsOutFor (old : Snapshot (Parts H L T C)) (clear : ℕ)
      (now : Snapshot (Parts H L T C)) : Type 0 where
    pub done : List Interaction
    pub gains : Gains (Interacts (parts_ghosts health links trails clock)) old.parts done now.parts
    pub sent : SentKey
    pub at : now.state.work ≡ work.Awaits sent
    pub out : IsOutAt old.parts.config old.state true done clear sent now.state

  -- the attempts at a key of it ended, and the trail is not recorded
  pub record IsTriedFor (old : Snapshot (Parts H L T C)) (trail : List Attempt)
      (now : Snapshot (Parts H L T C)) : Type 0 where
    pub done : List Interaction
    pub gains : Gains (Interacts (parts_ghosts health links trails clock)) old.parts done now.parts
    pub tried : IsTriedAt old.parts.config old.state true done trail now.state

  -- the trail was recorded
  pub record IsPastFor (old now : Snapshot (Parts H L T C)) : Type 0 where
    pub done : List Interaction
    pub gains : Gains (Interacts (parts_ghosts health links trails clock)) old.parts done now.parts
    pub past : IsPastAt old.parts.config old.state true done now.state

module _ {H L T C : Type 0} (health : HealthGhosts H) (links : LinksGhosts L)
    (trails : TrailsGhosts T) (clock : ClockGhosts C) where
  -- how far the next item was answered, where the session said this
  abbrev pub IsOnAt : Snapshot (Parts H L T C) → Step → Snapshot (Parts H L T C) → Type 0
  IsOnAt old (step.At at) now = IsOver health links trails clock at old now
  IsOnAt old (step.Refused fault) now =
      IsOver health links trails clock (progress_after fault) old now
  IsOnAt old step.Began now = IsTaken health links trails clock old now
  IsOnAt old (step.Asks clear) now = IsOutFor health links trails clock old clear now
  IsOnAt old (step.Tried trail) now = IsTriedFor health links trails clock old trail now

  pub record IsOn (old : Snapshot (Parts H L T C)) (said : Step)
      (now : Snapshot (Parts H L T C)) : Type 0 where
    pub on : IsOnAt old said now

module _ {H L T C : Type 0} (health : HealthGhosts H) (links : LinksGhosts L)
    (trails : TrailsGhosts T) (clock : ClockGhosts C) where
  -- its reply is complete
  complete : {done : List Interaction} {at : Progress} {old now : Snapshot (Parts H L T C)}
      → old.state.owes ≡ false → length old.state.outbox < reply_bound
      → Gains (Interacts (parts_ghosts health links trails clock)) old.parts done now.parts
      → IsRepliedAt old.parts.config old.state true done at now.state
      → IsOver health links trails clock at old now
  unfolding NeedsMore
  complete {done} {at} {old} {now} none room gains it =
      let read : SessionState = record old.state { reading = now.state.reading } in
      let text = it.answered.text in
      let replied : Replied (parts_ghosts health links trails clock)
      (snapshot read old.parts) it.it now = record {
        routed = it.answered.routed;
        text = text;
        becomes =
            performs (λ config. IsSessionTurn config
            (record { item = item.Request it.it; routed = it.answered.routed; text = text }))
            (turn.answered it.it it.was refl it.are it.answered.answers) gains;
        reading = refl;
        outbox = it.answered.appended;
        requests = it.requests;
        owes = it.owed;
      } in record {
        answered =
            answered_request {ghosts = parts_ghosts health links trails clock} old.state read
            now.state old.parts now.parts it.it at
            it.emits refl replied it.says none room;
        more = λ is needs. needs _ _ it.emits;
        unowed = λ no. absurd (owed_or_not it.owed no);
        between = it.between;
      }

  over_item : {done : List Interaction} {at : Progress} {old now : Snapshot (Parts H L T C)}
      → (done ≡ [] → old.state.work ≡ work.Between) → old.state.owes ≡ false
      → length old.state.outbox < reply_bound
      → Gains (Interacts (parts_ghosts health links trails clock)) old.parts done now.parts
      → IsOverAt old.parts.config old.state true done at now.state
      → IsOver health links trails clock at old now
  unfolding NeedsMore
  over_item {old = old} {now = now} idle none room gains (undecided needs nothing says same) =
      let stays : now.parts ≡ old.parts =
      (subst (λ ds. Gains (Interacts (parts_ghosts health links trails clock)) old.parts ds
      now.parts) nothing gains).leads in
      let over : IsOver health links trails clock progress.NeedsInput old
      (snapshot old.state old.parts) = record {
        answered = answered_open old.state old.state old.parts needs refl;
        more = λ is. cc;
        unowed = λ no. refl;
        between = idle nothing;
      } in
      subst (λ a. IsOver health links trails clock a old now) (sym says)
      (subst (λ s. IsOver health links trails clock progress.NeedsInput old (snapshot s now.parts))
      (sym same)
      (subst (λ p. IsOver health links trails clock progress.NeedsInput old (snapshot old.state p))
      (sym stays) over))
  over_item {at = at} {old = old} {now = now} idle none room gains
      (refused fault emits nothing says same) =
      let stays : now.parts ≡ old.parts =
      (subst (λ ds. Gains (Interacts (parts_ghosts health links trails clock)) old.parts ds
      now.parts) nothing gains).leads in
      let read : SessionState = record old.state { reading = now.state.reading } in
      let then : SessionState = record read { outbox = old.state.outbox ++ fault_text fault } in
      let over : IsOver health links trails clock at old (snapshot then old.parts) = record {
        answered = answered_fault (parts_ghosts health links trails clock) old.state
            read then old.parts fault at emits refl refl says none room;
        more = λ is needs. needs _ _ emits;
        unowed = λ no. refl;
        between = idle nothing;
      } in
      subst (λ s. IsOver health links trails clock at old (snapshot s now.parts)) (sym same)
      (subst (λ p. IsOver health links trails clock at old (snapshot then p)) (sym stays) over)
  over_item idle none room gains (replied it) = complete none room gains it

  -- how far it came, once the parts had what was done
  pub on_item : {done : List Interaction} {old now : Snapshot (Parts H L T C)} (said : Step)
      → (done ≡ [] → old.state.work ≡ work.Between) → old.state.owes ≡ false
      → length old.state.outbox < reply_bound
      → Gains (Interacts (parts_ghosts health links trails clock)) old.parts done now.parts
      → IsItem old.parts.config old.state true done said now.state
      → IsOn health links trails clock old said now
  on_item (step.At at) idle none room gains it =
      record { on = over_item idle none room gains it.on }
  on_item (step.Refused fault) idle none room gains it =
      record { on = over_item idle none room gains it.on }
  on_item {old = old} {now = now} step.Began idle none room gains it =
      let read = it.on in
      let stays : now.parts ≡ old.parts =
      (subst (λ ds. Gains (Interacts (parts_ghosts health links trails clock)) old.parts ds
      now.parts) read.0 gains).leads in
      record {
        on = record {
          it = read.1.it;
          emits = read.1.emits;
          parts = stays;
          state = read.1.state;
        };
      }
  on_item {done} (step.Asks clear) idle none room gains it =
      let out = it.on in
      record {
        on = record {
          done = done;
          gains = gains;
          sent = out.0;
          at = out.1.at;
          out = out.1;
        };
      }
  on_item {done} (step.Tried trail) idle none room gains it =
      record { on = record { done = done; gains = gains; tried = it.on } }

  -- memory ran out
  pub cut_item : {done : List Interaction} {old new : Snapshot (Parts H L T C)}
      → old.state.owes ≡ false
      → Gains (Interacts (parts_ghosts health links trails clock)) old.parts done new.parts
      → IsCutAt old.parts.config old.state true done new.state
      → IsCut health links trails clock old new
  cut_item {old = old} {new = new} none gains (unasked nothing owed before) =
      let stays : new.parts ≡ old.parts =
      (subst (λ ds. Gains (Interacts (parts_ghosts health links trails clock)) old.parts ds
      new.parts) nothing gains).leads in
      let cut : IsCut health links trails clock old (snapshot new.state old.parts) = record {
        part = part_none old.state new.state old.parts before.waits none (owed ∙ none);
        unowed = λ no. refl;
        between = before.between;
      } in
      subst (λ p. IsCut health links trails clock old (snapshot new.state p)) (sym stays) cut
  cut_item {old = old} {new = new} none gains (request_cut it now emits lost owed before) = record {
    part = part_cut old.state new.state it now.reading old.parts new.parts emits
        (performs (λ config. IsRequestCut config it) lost gains) before.waits none owed;
    unowed = λ no. absurd (owed_or_not owed no);
    between = before.between;
  }
