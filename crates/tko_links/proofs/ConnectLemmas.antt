-- The connection of an exchange: one that was found, a new one, and what fails on it.
use Rattle.std.proofs.Common.{◌≡◌, ℕ, ◌+◌, Bool, true, false, [], ◌∷◌, refl, inl, inr, Ok}
use Rattle.std.proofs.Common.{Err, Result}
use Rattle.tko_links.specs.declared.wire.WireFault.{WireFault}
use Rattle.tko_links.specs.ExchangeParts.{Opens}
use Rattle.tko_links.specs.Exchanges.{IsPart, tried}
use Rattle.tko_links.specs.Wires.{AllSame, OthersSame, WireItem, Checked, Failed, Shut}
use Rattle.tko_links.specs.Wires.{connect_item, is_ok, wire_faults_in}
use Rattle.tko_links.proofs.PartLemmas.{part_append, part_kept, part_one}

module _ {W : Type 0} {servers : W → ℕ} {connected : W → ℕ → Bool} {failures : W → ℕ}
    {steps : W → WireItem → W → Type 0}
    {server : ℕ} where
  -- a connect and its result
  pub part_tried : {old new : W} (result : Result Unit WireFault)
      → steps old (connect_item server result) new
      → connected new server ≡ is_ok result → OthersSame server (connected old) (connected new)
      → failures new ≡ failures old + wire_faults_in result → servers new ≡ servers old
      → IsPart servers connected failures steps server old (tried (is_ok result) server ∷ [])
      (is_ok result) new
  part_tried (Ok done) step there others failed same = part_one step there others failed same
  part_tried (Err fault) step there others failed same = part_one step there others failed same

  pub opens_found : {old new : W} → connected old server ≡ true
      → IsPart servers connected failures steps server old (Checked server true ∷ []) true new
      → Opens servers connected failures steps server old true new
  opens_found was part = record {
    items = Checked server true ∷ [];
    part = part;
    opens = inl (was, refl, refl);
  }

  pub opens_anew : {old new : W} {is_open : Bool} → connected old server ≡ false
      → IsPart servers connected failures steps server old (tried is_open server ∷ []) is_open new
      → Opens servers connected failures steps server old is_open new
  opens_anew {old} {new} {is_open} was part = record {
    items = tried is_open server ∷ [];
    part = part;
    opens = rw was (inr refl);
  }

  pub opens_instead : {old checked shut new : W} {is_open : Bool} → connected old server ≡ true
      → IsPart servers connected failures steps server old (Checked server false ∷ []) true checked
      → IsPart servers connected failures steps server checked (Shut server ∷ []) false shut
      → IsPart servers connected failures steps server shut (tried is_open server ∷ []) is_open new
      → Opens servers connected failures steps server old is_open new
  opens_instead {old} {checked} {shut} {new} {is_open} was first second third = record {
    items = Checked server false ∷ Shut server ∷ tried is_open server ∷ [];
    part = part_append (part_append first second) third;
    opens = rw was (inr refl);
  }

  -- a read or a write that failed
  pub part_failed : {old new : W} (f : WireFault) → steps old (Failed server f) new
      → connected old server ≡ true
      → AllSame (connected old) (connected new) → failures new ≡ failures old + 1
      → servers new ≡ servers old
      → IsPart servers connected failures steps server old (Failed server f ∷ []) true new
  part_failed f step there all failed same = part_kept step there all failed same
