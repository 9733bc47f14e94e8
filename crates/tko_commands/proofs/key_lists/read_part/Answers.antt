use Rattle.tko_commands.proofs.KeyListLemmas.{loses_none}
use Rattle.tko_commands.proofs.key_lists.read_part.Goals as goal

pub loop-init : goal.loop-init
loop-init g c = (loses_none g.F.Read.remaining c.args.file.now, c.requires)
