-- A connection over TCP: the time limit of the exchange on it.
use Rattle.std.specs.Prelude.{◌≡◌, ◌≤◌, ◌<◌, ◌*◌, ℕ, true, false, List, length, Option}
use Rattle.std.specs.declared.time.Duration.{Duration}
use Rattle.std.specs.declared.time.Instant.{Instant}
use Rattle.std.specs.Duration.{as_nanos}
use Rattle.tko_tcp.specs.declared.exchange_time.ExchangeTime.{ExchangeTime}
use Rattle.tko_tcp.specs.declared.limited_stream.LimitedStream.{LimitedStream}
use Rattle.tko_tcp.specs.declared.tcp_connection.TcpConnection.{TcpConnection}
use Rattle.tko_tcp.specs.ExchangeTimes.{IsLater, IsTimeBegun, left_of, looked_at, quarter_of, turn_left}
use Rattle.tko_tcp.specs.ProbeTimes.{nanos_in_milli}

-- a new connection belongs to the exchange that it was made for, whose time went on and which may
-- have waited for it; the socket's limits are as long as a call of such an exchange may wait
pub record IsConnectionOpened (time : ExchangeTime) (connection : TcpConnection) : Type 0 where
  pub later : IsLater time connection.time
  pub waited : connection.has_waited ≡ true
  pub reads : as_nanos connection.socket.read_limit
      ≡ quarter_of time.running.limit * nanos_in_milli
  pub writes : as_nanos connection.socket.write_limit
      ≡ quarter_of time.running.limit * nanos_in_milli

-- an exchange with this limit begins, none of whose calls has waited yet
pub record BeginsExchange (limit : Duration) (old new : TcpConnection) : Type 0 where
  pub fresh : new.has_waited ≡ false
  pub begun : IsTimeBegun limit new.time
  pub socket : new.socket ≡ old.socket

-- a read begins: the clock is read, and where no call of the exchange can have waited, its time
-- begins only now
pub record BeginsRead (old new : TcpConnection) : Type 0 where
  pub fresh : old.has_waited ≡ false → IsTimeBegun old.time.limit new.time
  pub later : old.has_waited ≡ true
      → (now : Option Instant) × (new.time ≡ looked_at now old.time)
  pub has_waited : new.has_waited ≡ old.has_waited
  pub socket : new.socket ≡ old.socket

-- a call that may wait so long is made only while time is left, and waits for a quarter of the
-- exchange's limit at most, and for no longer than is left
pub record IsAllowed (time : ExchangeTime) (limit : Duration) : Type 0 where
  pub left : 0 < left_of time
  pub turn : as_nanos limit ≡ turn_left time * nanos_in_milli

-- a read took what came while time was left; if none was left, it did not wait
pub record IsReadAllowed (time : ExchangeTime) (socket : LimitedStream) : Type 0 where
  pub turn : 0 < left_of time → as_nanos socket.read_limit ≡ turn_left time * nanos_in_milli

-- the most bytes of a write that does not wait if no other bytes are unsent: 16 KiB
abbrev pub quick_write : ℕ
quick_write = 16384

-- a write that cannot have waited: the first one of an exchange, of at most 16 KiB, all of which
-- was written
pub record IsQuick (old : TcpConnection) (bytes : List ℕ) (count : ℕ) : Type 0 where
  pub fresh : old.has_waited ≡ false
  pub small : length bytes ≤ quick_write
  pub whole : count ≡ length bytes
