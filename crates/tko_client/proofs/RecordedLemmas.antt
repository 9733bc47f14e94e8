-- What a call of a session said is recorded.
use Rattle.std.proofs.Common.{◌≡◌, ℕ, List, [], Some, refl, sym, ap, subst, ◌∙◌}
use Rattle.tko_model.specs.Records.{Gains}
use Rattle.tko_model.proofs.RecordLemmas.{gains_one}
use Rattle.tko_route.specs.declared.attempt.Attempt.{Attempt}
use Rattle.tko_reply.specs.Ghosts.{PartsGhosts}
use Rattle.tko_reply.specs.Interactions.{Interacts, with_noted}
use Rattle.tko_reply.specs.TrailEvents.{Asked, Tried}
use Rattle.tko_reply.specs.declared.asking.OneKey.{OneKey}
use Rattle.tko_reply.specs.declared.parts.Parts.{Parts}
use Rattle.tko_keys.specs.KeysActs.{key_record}
use Rattle.tko_keys.specs.KeysDriven.{with_loss}
use Rattle.tko_keys.specs.KeysState.{KeysState}
use Rattle.tko_keys.specs.declared.step.KeyStep.{KeyStep}
use Rattle.tko_keys.specs.declared.step.KeyStep.TheVariants as key
use Rattle.tko_session.specs.Acts.{IsToRecord, left_after, recorded_after}
use Rattle.tko_session.specs.Driven.{dropped}
use Rattle.tko_session.specs.SessionState.{SessionState}
use Rattle.tko_session.specs.Working.{Work, key_in}
use Rattle.tko_session.specs.Working as work
use Rattle.tko_session.specs.declared.step.Step.{Step}
use Rattle.tko_session.specs.declared.step.Step.TheVariants as step
use Rattle.tko_client.specs.Keys.{IsKeyRecorded}
use Rattle.tko_client.specs.Keys as kept
use Rattle.tko_client.specs.Steps.{BeganAt, IsUnrecorded}

module _ {H T C : Type 0} (ghosts : PartsGhosts H (List ℕ) T C) where
  began_gains : (w : Work) (parts : Parts H (List ℕ) T C) (told : T) → BeganAt step.Began w
      → ((one : OneKey) → key_in w ≡ Some one
      → ghosts.records parts.trails (Asked one.request) told)
      → Gains (Interacts ghosts) parts (recorded_after step.Began w)
      (record parts { trails = told })
  began_gains work.Between parts told began recorded = absurd (let never : ⊥ = cc in never)
  began_gains (work.Read one) parts told began recorded = gains_one (recorded one refl, refl)
  began_gains (work.Awaits it) parts told began recorded = absurd (let never : ⊥ = cc in never)
  began_gains (work.Ended one) parts told began recorded = absurd (let never : ⊥ = cc in never)
  began_gains work.HandedOver parts told began recorded = absurd (let never : ⊥ = cc in never)

  -- the request that was read was recorded
  pub recorded_began : {said : Step} (w : Work) {parts : Parts H (List ℕ) T C} {told : T}
      → said ≡ step.Began → BeganAt said w
      → ((one : OneKey) → key_in w ≡ Some one
      → ghosts.records parts.trails (Asked one.request) told)
      → Gains (Interacts ghosts) parts (recorded_after said w) (record parts { trails = told })
  recorded_began {said} w {parts} {told} is began recorded =
      subst (λ s. Gains (Interacts ghosts) parts (recorded_after s w)
      (record parts { trails = told })) (sym is)
      (began_gains w parts told (subst (λ s. BeganAt s w) is began) recorded)

  -- the trail of a key was recorded
  pub recorded_tried : {said : Step} (w : Work) {trail : List Attempt}
      {old new : Parts H (List ℕ) T C} → said ≡ step.Tried trail
      → ghosts.records old.trails (Tried trail) new.trails
      → new ≡ record (with_noted trail old) { trails = new.trails }
      → Gains (Interacts ghosts) old (recorded_after said w) new
  recorded_tried w {trail} {old} {new} is recorded noted =
      subst (λ s. Gains (Interacts ghosts) old (recorded_after s w) new) (sym is)
      (gains_one (recorded, noted))

  -- it could not be
  pub unrecorded_tried : {said : Step} {trail attempts : List Attempt} {was now : SessionState}
      {old mid new : Parts H (List ℕ) T C} → said ≡ step.Tried trail → now ≡ dropped was
      → attempts ≡ [] → mid.trails ≡ old.trails
      → mid ≡ record (with_noted trail old) { trails = mid.trails } → new ≡ with_noted attempts mid
      → IsUnrecorded ghosts said (was, old) (now, new)
  unrecorded_tried {said} {trail} {attempts} {was} {now} {old} {mid} {new} is state none told noted
      marked =
      let left : new ≡ with_noted trail old = marked ∙ ap (λ marks. with_noted marks mid) none
      ∙ noted ∙ ap (λ t. record (with_noted trail old) { trails = t }) told in record {
        some = subst IsToRecord (sym is) tt;
        state = state;
        gains = subst (λ s. Gains (Interacts ghosts) old (left_after s) new) (sym is)
            (gains_one left);
      }

  -- the trail of a key among several was recorded
  pub key_tried : {said : KeyStep} {trail : List Attempt} {keys : KeysState}
      {old new : Parts H (List ℕ) T C} → said ≡ key.Tried trail
      → ghosts.records old.trails (Tried trail) new.trails
      → new ≡ record (with_noted trail old) { trails = new.trails }
      → IsKeyRecorded ghosts said (keys, old) (keys, new)
  key_tried {old = old} {new} is recorded noted =
      kept.recorded refl (subst (λ s. Gains (Interacts ghosts) old (key_record s) new) (sym is)
      (gains_one (recorded, noted)))

  -- it could not be
  pub key_untried : {said : KeyStep} {trail : List Attempt} {keys now : KeysState}
      {old new : Parts H (List ℕ) T C} → said ≡ key.Tried trail → now ≡ with_loss keys
      → new.trails ≡ old.trails → new ≡ record (with_noted trail old) { trails = new.trails }
      → IsKeyRecorded ghosts said (keys, old) (now, new)
  key_untried {trail = trail} {old = old} is state told noted =
      kept.unrecorded trail is state
      (gains_one (noted ∙ ap (λ t. record (with_noted trail old) { trails = t }) told))
