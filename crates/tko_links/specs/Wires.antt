-- Connections to servers: what each call on them did, and what it says.
use Rattle.std.specs.Prelude.{◌≡◌, ◌≢◌, ℕ, ◌<◌, Bool, true, false, List, ◌&&◌, ◌==◌, if◌then◌else◌, length, nat_lt, slice_set, take, Result, Ok, Err}
use Rattle.tko_links.specs.declared.wire.WireFault.{WireFault}

-- an item of a wire's record: one call, and what it did
pub data WireItem : Type 0 where
  -- a connection was made, or could not be made
  Connected : (server : ℕ) → WireItem
  Unconnected : (server : ℕ) → WireItem
  -- these bytes were taken from the front of a piece; none of a piece that is not empty is a
  -- failure
  Wrote : (server : ℕ) (bytes : List ℕ) → WireItem
  -- these bytes came; none are the end of input
  Got : (server : ℕ) (bytes : List ℕ) → WireItem
  -- a read or a write failed
  Failed : (server : ℕ) (fault : WireFault) → WireItem
  -- the connection was given up
  Shut : (server : ℕ) → WireItem
  -- before an exchange: whether the connection can still be used
  Checked : (server : ℕ) (usable : Bool) → WireItem
  -- the time limit of the next exchange was set: that of a probe of this server, or the whole one
  Limited : (server : ℕ) (is_probe : Bool) → WireItem

abbrev pub is_ok : {A E : Type 0} → Result A E → Bool
is_ok (Ok done) = true
is_ok (Err fault) = false

-- how many failures the result of a connect or a read is
abbrev pub wire_faults_in : {A : Type 0} → Result A WireFault → ℕ
wire_faults_in (Ok done) = 0
wire_faults_in (Err fault) = 1

-- how many failures the result of a write of this piece is
abbrev pub wire_refusals_in : List ℕ → Result ℕ WireFault → ℕ
wire_refusals_in piece (Ok count) = if nat_lt 0 (length piece) && (count == 0) then 1 else 0
wire_refusals_in piece (Err fault) = 1

-- the item of a connect
abbrev pub connect_item : ℕ → Result Unit WireFault → WireItem
connect_item server (Ok done) = Connected server
connect_item server (Err fault) = Unconnected server

-- the item of a write of this piece
abbrev pub write_item : ℕ → List ℕ → Result ℕ WireFault → WireItem
write_item server piece (Ok count) = Wrote server (take count piece)
write_item server piece (Err fault) = Failed server fault

-- the item of a read that left this in its buffer
abbrev pub read_item : ℕ → List ℕ → Result ℕ WireFault → WireItem
read_item server buffer (Ok count) = Got server (take count buffer)
read_item server buffer (Err fault) = Failed server fault

-- which servers are connected: the same at each
abbrev pub AllSame : (ℕ → Bool) → (ℕ → Bool) → Type 0
AllSame old new = (other : ℕ) → new other ≡ old other

-- the same but at this server
abbrev pub OthersSame : ℕ → (ℕ → Bool) → (ℕ → Bool) → Type 0
OthersSame server old new = (other : ℕ) → other ≢ server → new other ≡ old other

-- this server may be connected: it is there, and it is not connected yet
pub record MayConnect {W : Type 0} (count : W → ℕ) (is_connected : W → ℕ → Bool) (wire : W)
    (server : ℕ) : Type 0 where
  pub within : server < count wire
  pub shut : is_connected wire server ≡ false

-- bytes may be written to this server: it is there, and it is connected
pub record MayWrite {W : Type 0} (count : W → ℕ) (is_connected : W → ℕ → Bool) (wire : W)
    (server : ℕ) : Type 0 where
  pub within : server < count wire
  pub connected : is_connected wire server ≡ true

-- bytes of this server may be read into this buffer: the server is there, it is connected, and the
-- buffer has room
pub record MayRead {W : Type 0} (count : W → ℕ) (is_connected : W → ℕ → Bool) (wire : W)
    (server : ℕ) (buffer : List ℕ) : Type 0 where
  pub within : server < count wire
  pub connected : is_connected wire server ≡ true
  pub room : 0 < length buffer

-- which servers are connected after an item
abbrev pub connected_after : List Bool → WireItem → List Bool
connected_after connected (Connected server) = slice_set connected server true
connected_after connected (Unconnected server) = slice_set connected server false
connected_after connected (Shut server) = slice_set connected server false
connected_after connected _ = connected
