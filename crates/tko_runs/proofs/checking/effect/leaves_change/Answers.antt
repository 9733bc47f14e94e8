use Rattle.std.proofs.Common.{◌≡◌, sym, ◌∙◌}
use Rattle.tko_model.specs.Tracker.{server_at}
use Rattle.tko_runs.specs.CheckStates.{with_change}
use Rattle.tko_runs.proofs.EffectLemmas.{changed_from, changed_to, unchanged_from, unchanged_to}
use Rattle.tko_runs.proofs.checking.effect.leaves_change.Goals as goal

pub returns-then-server-on : goal.returns-then-server-on
returns-then-server-on c =
    let servers = c.args.servers.now in
    let here = c.if-server-on.true in
    let same = c.is_same.ensures in
    let change : c.with_change.result ≡ with_change (server_at servers c.args.on) c.args.change = c.with_change.ensures in (
      λ yes. changed_to servers c.args.on c.args.server c.args.change c.args.left here (same.0 yes ∙ change),
      λ e. same.1 (changed_from servers c.args.on c.args.server c.args.change c.args.left here c.requires.on e ∙ sym change),
    )

pub returns-in-None : goal.returns-in-None
returns-in-None c =
    let servers = c.args.servers.now in
    let same = c.is_same-in-None.ensures in (
      λ yes. unchanged_to servers c.args.on c.args.server c.args.change c.args.left c.in-None.is (same.0 yes),
      λ e. same.1 (unchanged_from servers c.args.on c.args.server c.args.change c.args.left c.in-None.is c.requires.server e),
    )
