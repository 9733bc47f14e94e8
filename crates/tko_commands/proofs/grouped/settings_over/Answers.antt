use Rattle.std.proofs.Common.{rules}
use Rattle.tko_commands.proofs.GroupedLemmas.{set_within}
use Rattle.tko_commands.proofs.grouped.settings_over.Goals as goal

pub returns-clause-within : goal.returns-clause-within
returns-clause-within c =
    set_within _ c.args.config.now c.args.options (search rules) c.requires.servers c.groups.ensures.sound
    (rw c.in_ok-settings.ensures.ok at c.in_ok-settings.ensures.within)
