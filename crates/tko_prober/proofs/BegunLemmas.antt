-- After a round each server that was marked has its prober.
use Rattle.std.proofs.Common.{◌≡◌, ℕ, zero, suc, Bool, List, [], ◌∷◌, ap, map, slice_set}
use Rattle.tko_model.specs.Records.{Lead}
use Rattle.tko_prober.specs.declared.delays.Delays.{Delays}
use Rattle.tko_prober.specs.declared.prober.Probed.{Probed}
use Rattle.tko_prober.specs.declared.prober.Probed.TheVariants as probe
use Rattle.tko_prober.specs.declared.prober.Prober.{Prober}
use Rattle.tko_prober.specs.declared.backend.Backend.{Backend}
use Rattle.tko_prober.specs.declared.probers.ProbeSlot.{ProbeSlot}
use Rattle.tko_prober.specs.declared.probers.ProbeSlot.TheVariants.{Quiet, Marked, Probing}
use Rattle.tko_prober.specs.Ghosts.{BackendGhosts}
use Rattle.tko_prober.specs.Probers.{AreBegun, NoneMarked, begun_at, begun_slot, probed_of, slot_after, with_slot}
use Rattle.tko_prober.specs.Round as at_round
use Rattle.tko_prober.specs.Round.{Absent, IsRound, IsVisit, Rested, Stopped, Visit}

-- a slot that is put into its place leaves no server that waits for its prober
begun-set : (slots : List ProbeSlot) (place : ℕ) (slot : ProbeSlot) → AreBegun slots → AreBegun (slot ∷ [])
    → AreBegun (slice_set slots place slot)
begun-set [] place slot begun put = tt
begun-set (Quiet ∷ slots) zero Quiet begun put = begun
begun-set (Quiet ∷ slots) zero (Probing prober) begun put = begun
begun-set (Quiet ∷ slots) zero Marked begun put = absurd put
begun-set (Marked ∷ slots) place slot begun put = absurd begun
begun-set (Probing it ∷ slots) zero Marked begun put = absurd put
begun-set (Probing it ∷ slots) zero Quiet begun put = begun
begun-set (Probing it ∷ slots) zero (Probing prober) begun put = begun
begun-set (Quiet ∷ slots) (suc place) slot begun put = begun-set slots place slot begun put
begun-set (Probing it ∷ slots) (suc place) slot begun put = begun-set slots place slot begun put

-- at the beginning of a round each server that was marked gets its prober
begun-all : (delays : Delays) (moment : ℕ) (slots : List ProbeSlot) → AreBegun (map (begun_slot delays moment) slots)
begun-all delays moment [] = tt
begun-all delays moment (Quiet ∷ slots) = begun-all delays moment slots
begun-all delays moment (Marked ∷ slots) = begun-all delays moment slots
begun-all delays moment (Probing prober ∷ slots) = begun-all delays moment slots

-- what a result leaves in a slot
slot_after-begun : (prober : Prober) (moment : ℕ) (came : Probed) → AreBegun (slot_after prober moment came ∷ [])
slot_after-begun prober moment probe.Answered = tt
slot_after-begun prober moment probe.Refused = tt
slot_after-begun prober moment probe.Failed = tt

module _ {H L C : Type 0} (ghosts : BackendGhosts H L C) where
  visit-begun : (moment : ℕ) (old : Backend H L C) (visit : Visit) (new : Backend H L C)
      → IsVisit ghosts moment old visit new → AreBegun old.probers.slots → AreBegun new.probers.slots
  visit-begun moment old (Absent server) new (none, same) begun = rw same begun
  visit-begun moment old (Stopped server) new stopped begun =
      let is : new.probers ≡ with_slot old.probers server Quiet = ap (λ (p : Backend H L C). p.probers) stopped.others in
      rw is (begun-set old.probers.slots server Quiet begun tt)
  visit-begun moment old (Rested server) new rested begun = rw rested.same begun
  visit-begun moment old (at_round.Probed server came later reply) new was begun =
      let slot : ProbeSlot = slot_after was.prober later (probed_of came) in
      let is : new.probers ≡ with_slot old.probers server slot = ap (λ (p : Backend H L C). p.probers) was.others in
      rw is (begun-set old.probers.slots server slot begun (slot_after-begun was.prober later (probed_of came)))

  visits-begun : (moment : ℕ) (old : Backend H L C) (visits : List Visit) (new : Backend H L C)
      → Lead (IsVisit ghosts moment) old visits new → AreBegun old.probers.slots → AreBegun new.probers.slots
  visits-begun moment old [] new same begun = rw same begun
  visits-begun moment old (visit ∷ visits) new (mid, first, rest) begun =
      visits-begun moment mid visits new rest (visit-begun moment old visit mid first begun)

module _ {H L C : Type 0} {ghosts : BackendGhosts H L C} where
  -- after a round each server that was marked has its prober
  pub round-begun : {old new : Backend H L C} {short : Bool} → IsRound ghosts old short new
      → NoneMarked new.probers
  round-begun {old} {new} {short} round = record {
    begun =
        visits-begun ghosts round.moment
        (record old { clock = round.clock; probers = begun_at round.moment old.probers }) round.visits new
        round.each.leads (begun-all old.probers.delays round.moment old.probers.slots);
  }
