use Rattle.std.proofs.Common.{subst, sym}
use Rattle.tko_runs.specs.States.{IsRunData}
use Rattle.tko_runs.specs.Plays.{Played, run_data_of}
use Rattle.tko_runs.proofs.playing.player.Player.finish.Goals as goal

pub new-requires : goal.new-requires
new-requires c =
    let P : Played → Type 0 = λ p. IsRunData (run_data_of c.args.version c.args.settings p) in subst P (sym c.self.view_is) c.requires
