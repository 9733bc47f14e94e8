-- Addresses of servers: `<host>:<port>`, parted at the last colon.
use Rattle.std.specs.Prelude.{ℕ, ◌+◌, Bool, false, ◌&&◌, nat_le, List, length, drop, Option, option_map, unwrap_or}
use Rattle.std.specs.Char.{is_ascii_graphic}
use Rattle.std.specs.List.{list_all}
use Rattle.memchr.specs.Find.{is_byte, last_of, places}
use Rattle.tko_bytes.specs.Addresses.{colon, max_port}
use Rattle.tko_bytes.specs.Numbers.{number_of}

-- the most bytes of an address
abbrev pub max_address : ℕ
max_address = 255

-- the last place of a colon
unfoldable pub last_colon : List ℕ → Option ℕ
last_colon text = last_of (places (is_byte colon) text)

-- decimal digits that write a port
abbrev pub is_port : List ℕ → Bool
is_port word = unwrap_or (option_map (λ port. nat_le 1 port) (number_of max_port word)) false

-- a host of one byte or more before this colon, and a port after it
unfoldable pub is_parted_at : List ℕ → ℕ → Bool
is_parted_at text place = nat_le 1 place && is_port (drop (place + 1) text)

-- printable ASCII without spaces, of a host, a colon and a port
unfoldable pub is_address : List ℕ → Bool
is_address text =
    nat_le (length text) max_address && list_all is_ascii_graphic text
    && unwrap_or (option_map (is_parted_at text) (last_colon text)) false
