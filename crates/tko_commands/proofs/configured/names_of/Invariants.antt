use Rattle.std.proofs.Common.{◌≡◌, map}
use Rattle.std.specs.Prelude.{string_bytes}
use Rattle.tko_commands.specs.Configured.{scripted_names}
use Rattle.tko_commands.proofs.configured.names_of.Given as goal

-- the names so far
abbrev pub invariant-loop-server : goal.invariant-loop-server
invariant-loop-server l = map string_bytes l.names.items ≡ scripted_names l.server-counter
