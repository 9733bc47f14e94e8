-- Addresses of servers, `<host>:<port>`: what each crate that reads one knows of it.
use Rattle.std.specs.Prelude.{ℕ}

-- the byte `:`
abbrev pub colon : ℕ
colon = 58

-- the greatest port
abbrev pub max_port : ℕ
max_port = 65535
