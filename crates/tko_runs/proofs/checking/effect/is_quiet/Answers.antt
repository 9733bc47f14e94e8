use Rattle.tko_runs.proofs.EffectLemmas.{unwritten, written_same}
use Rattle.tko_runs.proofs.checking.effect.is_quiet.Goals as goal

pub returns : goal.returns
returns c =
    let servers = c.args.servers.now in
    let same = c.is_same.ensures in (
      λ yes. written_same servers c.args.server c.args.left (same.0 yes),
      λ e. same.1 (unwritten servers c.args.server c.args.left c.requires e),
    )
