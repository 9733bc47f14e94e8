-- Addresses of servers, as a connection over TCP uses them.
use Rattle.std.specs.Prelude.{◌≡◌, ℕ, List, [], ◌∷◌, ◌++◌, Some}
use Rattle.tko_bytes.specs.Addresses.{colon, max_port}
use Rattle.tko_bytes.specs.Numbers.{number_of}

-- the byte `[`
abbrev pub open_bracket : ℕ
open_bracket = 91

-- the byte `]`
abbrev pub close_bracket : ℕ
close_bracket = 93

-- the most addresses of one host that are kept
abbrev pub max_host_addresses : ℕ
max_host_addresses = 32

-- a host as it is looked up: as it is written, or without its brackets
pub data IsBare (written : List ℕ) (bare : List ℕ) : Type 0 where
  Plain : bare ≡ written → IsBare written bare
  Bracketed : written ≡ open_bracket ∷ bare ++ close_bracket ∷ [] → IsBare written bare

-- the address is a host, a colon, and the digits of a port
pub record IsParted (address : List ℕ) (host : List ℕ) (port : ℕ) : Type 0 where
  pub written : List ℕ
  pub digits : List ℕ
  pub whole : address ≡ written ++ colon ∷ digits
  pub bare : IsBare written host
  pub number : number_of max_port digits ≡ Some port
