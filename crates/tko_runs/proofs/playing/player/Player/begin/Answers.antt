use Rattle.std.proofs.Common.{◌≡◌, OnOk, refl, subst}
use Rattle.tko_runs.specs.Plays.{Played}
use Rattle.tko_runs.proofs.PlayStepLemmas.{after_turn-begun, after_turn-refused, no_fault}
use Rattle.tko_runs.proofs.playing.player.Player.begin.Goals as goal

pub returns-in-Ok : goal.returns-in-Ok
returns-in-Ok c =
    let none = no_fault _ c.in-Ok.ensures.fault in
    let P : Played → Type 0 = λ new. OnOk c.tell.result (c.tell.new.self ≡ new) in
    subst P (after_turn-begun _ _ c.args.thread c.args.op c.args.server c.self.view_is none)
    (rw c.in-Ok.ensures.ok at c.tell.ensures)

pub returns-in-Err : goal.returns-in-Err
returns-in-Err c =
    let some = (c.in-Err.ensures.fault c.in-Err.fault).0 refl in
    let P : Played → Type 0 = λ new. OnOk c.skip.result (c.skip.new.self ≡ new) in
    subst P (after_turn-refused _ _ c.args.thread c.args.op c.args.server c.in-Err.fault c.self.view_is some)
    (rw c.in-Err.ensures.err at c.skip.ensures)
