-- What a wire did over the record of its links.
use Rattle.std.specs.Prelude.{◌≡◌, ℕ, List, [], ◌∷◌, flat_map}
use Rattle.tko_model.specs.Records.{Gains}
use Rattle.tko_text.specs.Requests.{request_text}
use Rattle.tko_links.specs.Exchanges.{BeginsText}
use Rattle.tko_links.specs.Links.{LinksItem}
use Rattle.tko_links.specs.Scripted.{probes_after_all, sends_after_all}
use Rattle.tko_links.specs.Wired.{WiredState, item_server, request_in}
use Rattle.tko_links.specs.Wires.{WireItem, Connected, Unconnected, Wrote, Got, Failed, Shut, Checked, Limited}

-- the server of an item
abbrev pub wire_server_of : WireItem → ℕ
wire_server_of (Connected server) = server
wire_server_of (Unconnected server) = server
wire_server_of (Wrote server bytes) = server
wire_server_of (Got server bytes) = server
wire_server_of (Failed server fault) = server
wire_server_of (Shut server) = server
wire_server_of (Checked server usable) = server
wire_server_of (Limited server is_probe) = server

-- all items are at this server
abbrev pub AreAt : ℕ → List WireItem → Type 0
AreAt server [] = Unit {0}
AreAt server (it ∷ items) = (wire_server_of it ≡ server) × AreAt server items

-- the bytes of an item that were written
abbrev pub bytes_of : WireItem → List ℕ
bytes_of (Wrote server bytes) = bytes
bytes_of (Connected server) = []
bytes_of (Unconnected server) = []
bytes_of (Got server bytes) = []
bytes_of (Failed server fault) = []
bytes_of (Shut server) = []
bytes_of (Checked server usable) = []
bytes_of (Limited server is_probe) = []

abbrev pub wire_written_in : List WireItem → List ℕ
wire_written_in items = flat_map bytes_of items

-- the wire's items of one exchange: all at its server, and a beginning of its request was written
pub record IsExchangeDone (it : LinksItem) (done : List WireItem) : Type 0 where
  pub own : AreAt (item_server it) done
  pub front : BeginsText (wire_written_in done) (request_text (request_in it))

-- these of one exchange after the other
abbrev pub AreDone : List LinksItem → List (List WireItem) → Type 0
AreDone [] [] = Unit {0}
AreDone (it ∷ items) (done ∷ others) = IsExchangeDone it done × AreDone items others
AreDone _ _ = ⊥

-- over these items the wire did this and nothing else, and each exchange is counted
pub record IsWireRecord {W : Type 0} (steps : W → WireItem → W → Type 0) (old : WiredState W)
    (items : List LinksItem) (new : WiredState W) : Type 0 where
  pub calls : List (List WireItem)
  pub done : AreDone items calls
  pub gains : Gains steps old.wire (flat_map (λ call. call) calls) new.wire
  pub sends : new.sends ≡ sends_after_all old.sends items
  pub probes : new.probes ≡ probes_after_all old.probes items
