use Rattle.std.proofs.Common.{◌≡◌, ◌+◌, ◌-◌, OnOk, replicate, sym, ap, ◌∙◌, subst}
use Rattle.tko_runs.specs.Plays.{Played, after_all_turns}
use Rattle.tko_steps.specs.Runs.{Step}
use Rattle.tko_runs.proofs.PlayStepLemmas.{after_all-did, after_all-idle, after_all-none}
use Rattle.tko_runs.proofs.playing.player.Player.steps.Goals as goal

pub returns-in-Idle : goal.returns-in-Idle
returns-in-Idle c =
    let left = c.args.steps - c.loop-done.done in
    let P : Played → Type 0 = λ new. OnOk c.skip.result (c.skip.new.self ≡ new) in
    subst P
    (after_all-idle _ _ c.args.thread left c.self.view_is (sym c.in-Idle.ensures.reported) ∙ c.loop-done.invariant)
    (rw c.in-Idle.ensures.state at c.skip.ensures)

pub returns-in-NoThread : goal.returns-in-NoThread
returns-in-NoThread c =
    let left = c.args.steps - c.loop-done.done in
    let P : Played → Type 0 = λ new. OnOk c.skip-in-NoThread.result (c.skip-in-NoThread.new.self ≡ new) in
    subst P
    (after_all-none _ _ c.args.thread left c.self.view_is (sym c.in-NoThread.ensures.reported) ∙ c.loop-done.invariant)
    (rw c.in-NoThread.ensures.state at c.skip-in-NoThread.ensures)

pub loop-done-preserved : goal.loop-done-preserved
loop-done-preserved c =
    let left = c.args.steps - (c.loop-done.done + 1) in
    let told = rw c.in-Did.ensures.state at c.in_ok-tell-in-Did.ensures in
    ap (λ p. after_all_turns p (replicate left (Step c.args.thread))) told
    ∙ after_all-did _ _ c.args.thread c.args.steps c.loop-done.done c.self.view_is c.loop-done-test.true (sym c.in-Did.ensures.reported)
    ∙ c.loop-done.invariant
