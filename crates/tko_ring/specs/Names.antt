-- The name of a server that has none of its own.
use Rattle.std.specs.Prelude.{ℕ, ◌+◌, ◌==◌, Bool, false, if◌then◌else◌, List, Option, drop, take, option_map, unwrap_or}
use Rattle.memchr.specs.Find.{is_byte, last_of, places}
use Rattle.tko_bytes.specs.Addresses.{colon, max_port}
use Rattle.tko_bytes.specs.Numbers.{number_of}

-- memcached's own port, which names leave out
abbrev pub memcached_port : ℕ
memcached_port = 11211

-- decimal digits that write memcached's own port
abbrev pub is_memcached_port : List ℕ → Bool
is_memcached_port word =
    unwrap_or (option_map (λ port. port == memcached_port) (number_of max_port word)) false

-- an address without memcached's own port at this colon, or as it is
abbrev pub named_at : List ℕ → ℕ → List ℕ
named_at address colon =
    if is_memcached_port (drop (colon + 1) address) then take colon address else address

-- the last colon of an address
unfoldable pub port_colon : List ℕ → Option ℕ
port_colon address = last_of (places (is_byte colon) address)

-- the address, without its port where that is memcached's own
unfoldable pub default_name : List ℕ → List ℕ
default_name address =
    unwrap_or (option_map (named_at address) (port_colon address)) address
