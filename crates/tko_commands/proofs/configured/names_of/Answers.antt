use Rattle.std.proofs.Common.{rules, string_bytes}
use Rattle.tko_commands.proofs.ConfiguredLemmas.{names-more}
use Rattle.tko_commands.proofs.configured.names_of.Goals as goal

-- src/configured.rt:41:5
pub loop-server-preserved : goal.loop-server-preserved
loop-server-preserved c =
    names-more string_bytes c.loop-server.server-counter c.loop-server.names.items c.push.new.self.items
    c.in_ok-format.field-0 c.loop-server.invariant (search rules) (search rules)
