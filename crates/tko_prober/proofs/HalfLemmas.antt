-- Laws of the two halves of a probe.
use Rattle.std.proofs.Common.{◌≡◌, ℕ, List, Option, Some, set-set, ap, ◌∙◌}
use Rattle.tko_model.specs.declared.mark.Reply.{Reply}
use Rattle.tko_model.specs.Records.{HealthItem}
use Rattle.tko_prober.specs.declared.prober.AfterProbe.{AfterProbe}
use Rattle.tko_prober.specs.declared.prober.Probed.{Probed}
use Rattle.tko_prober.specs.declared.prober.Prober.{Prober}
use Rattle.tko_prober.specs.declared.prober.ProbeTurn.TheVariants.{Rest, Send}
use Rattle.tko_prober.specs.Probes.{asked_after}
use Rattle.tko_route.specs.Trail.{IsRecorded}
use Rattle.tko_prober.specs.declared.backend.Backend.{Backend}
use Rattle.tko_prober.specs.declared.probers.ProbeSlot.{ProbeSlot}
use Rattle.tko_prober.specs.declared.probers.ProbeSlot.TheVariants.{Quiet, Probing}
use Rattle.tko_prober.specs.Halves.{IsResult}
use Rattle.tko_prober.specs.Probers.{ProbersState, op_asked, prober_of, slot_after, with_slot}
use Rattle.tko_prober.proofs.ProberLemmas.{set-prober}

pub rest_is_send : Rest ≡ Send → ⊥
rest_is_send same = cc

-- a slot that had another content first
pub set_again : (probers : ProbersState) (server : ℕ) (first slot : ProbeSlot)
    → with_slot (with_slot probers server first) server slot ≡ with_slot probers server slot
set_again probers server first slot =
    ap (λ (slots : List ProbeSlot). record probers { slots = slots }) (set-set probers.slots server first slot)

-- a slot that was emptied, and then got this
pub put_after : (old emptied put : ProbersState) (server : ℕ) (slot : ProbeSlot)
    → emptied ≡ with_slot old server Quiet → put ≡ with_slot emptied server slot → put ≡ with_slot old server slot
put_after old emptied put server slot is_emptied is_put =
    is_put ∙ ap (λ (p : ProbersState). with_slot p server slot) is_emptied ∙ set_again old server Quiet slot

-- a prober that goes back into its own slot
pub put_back : (old put : ProbersState) (server : ℕ) (prober : Prober) → prober_of old server ≡ Some prober
    → put ≡ with_slot old server (Probing prober) → put ≡ old
put_back old put server prober has is_put =
    is_put ∙ ap (λ (slots : List ProbeSlot). record old { slots = slots }) (set-prober old.slots server prober has)

-- a server has one prober
pub one_prober : (probers : ProbersState) (server : ℕ) (own prober : Prober)
    → prober_of probers server ≡ Some own → prober_of probers server ≡ Some prober → own ≡ prober
one_prober probers server own prober has is = cc

module _ {H L C : Type 0} {steps : H → HealthItem → H → Type 0} where
  -- the prober took the result, and what it asks for was recorded
  pub result_taken : (moment : ℕ) (old : Backend H L C) (server : ℕ) (own prober : Prober) (probed : Probed)
      (reply : Option Reply) (asked : AfterProbe) (slot : ProbeSlot) (health : H) (put : ProbersState)
      → own ≡ prober → asked ≡ asked_after probed → slot ≡ slot_after own moment probed
      → put ≡ with_slot old.probers server slot
      → IsRecorded steps old.health server (op_asked asked) reply health
      → IsResult steps moment old server prober probed reply (record old { health = health; probers = put })
  result_taken moment old server own prober probed reply asked slot health put is_own is_asked is_slot is_put recorded =
      let slots : slot ≡ slot_after prober moment probed =
      is_slot ∙ ap (λ (it : Prober). slot_after it moment probed) is_own in
      let probers : put ≡ with_slot old.probers server (slot_after prober moment probed) =
      is_put ∙ ap (λ (it : ProbeSlot). with_slot old.probers server it) slots in
      record {
        recorded = rw is_asked at recorded;
        others = ap (λ (p : ProbersState). record old { health = health; probers = p }) probers;
      }
