-- Links over a wire: what an item of their record means.
use Rattle.std.specs.Prelude.{◌≡◌, ℕ, Bool, List}
use Rattle.tko_text.specs.declared.request.Request.{Request}
use Rattle.tko_text.specs.declared.request.Request.TheVariants as request
use Rattle.tko_links.specs.Exchanges.{IsProbing, IsWireExchange}
use Rattle.tko_links.specs.Links.{LinksItem, Sent, Probed}
use Rattle.tko_links.specs.Scripted.{probes_after, sends_after}
use Rattle.tko_links.specs.Wires.{WireItem}

-- the wire, and how often each server was sent to and probed
pub record WiredState (W : Type 0) : Type 0 where
  pub wire : W
  pub sends : List ℕ
  pub probes : List ℕ

-- the server of an item
abbrev pub item_server : LinksItem → ℕ
item_server (Sent server asked came) = server
item_server (Probed server came) = server

-- what is asked in an item; a probe asks for the version
abbrev pub request_in : LinksItem → Request
request_in (Sent server asked came) = asked
request_in (Probed server came) = request.Version

-- an item is one exchange over the wire
abbrev pub IsOverWire : {W : Type 0} → (W → ℕ) → (W → ℕ → Bool) → (W → ℕ)
    → (W → WireItem → W → Type 0) → W → LinksItem → W → Type 0
IsOverWire servers connected failures steps old (Sent server asked came) new =
    IsWireExchange servers connected failures steps server asked old came new
IsOverWire servers connected failures steps old (Probed server came) new =
    IsProbing servers connected failures steps server old came new

-- an item is one exchange over the wire, and is counted
pub record IsWired {W : Type 0} (servers : W → ℕ) (connected : W → ℕ → Bool) (failures : W → ℕ)
    (steps : W → WireItem → W → Type 0) (old : WiredState W) (it : LinksItem) (new : WiredState W)
    : Type 0 where
  pub exchange : IsOverWire servers connected failures steps old.wire it new.wire
  pub sends : new.sends ≡ sends_after old.sends it
  pub probes : new.probes ≡ probes_after old.probes it
