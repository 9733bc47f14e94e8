use Rattle.std.proofs.Common.{rules}
use Rattle.std.specs.Prelude.{string_bytes}
use Rattle.tko_commands.proofs.ConfiguredLemmas.{names-few}
use Rattle.tko_commands.proofs.configured.scripted_config.Goals as goal

pub in_order-requires : goal.in_order-requires
in_order-requires c =
    record { few = names-few string_bytes c.in_ok-names.names.items c.args.servers c.in_ok-names.ensures (search rules) }
