use Rattle.std.proofs.Common.{◌≡◌, Some, None, sym, ◌∙◌, ap, Err}
use Rattle.tko_model.specs.declared.layout.Layout.TheVariants as layout
use Rattle.tko_model.specs.Ranges.{first_fault}
use Rattle.tko_model.specs.Settings.{Settings}
use Rattle.tko_runs.specs.Plays.{opened_play}
use Rattle.tko_runs.proofs.PlayStepLemmas.{enrolled-more, first_fault-within}
use Rattle.tko_runs.proofs.playing.player.Player.open.Goals as goal

pub unreachable-requires : goal.unreachable-requires
unreachable-requires c =
    let s : Settings = c.args.settings.now in
    let fault = c.in-Err-Settings.field-0-0 in
    let found : first_fault c.in_ok-own.own ≡ Some fault =
    (c.in-Err-Settings.ensures.settings fault).0 (ap Err c.in-Err-Settings.field-0-is) in
    let none : first_fault s ≡ None = first_fault-within layout.Two s c.requires in
    let differ : Some fault ≡ None = sym found ∙ ap first_fault c.in_ok-own.ensures ∙ none in
    cc

pub loop-thread-preserved : goal.loop-thread-preserved
loop-thread-preserved c =
    enrolled-more c.loop-thread.player c.steps.new.self c.loop-thread.thread (opened_play c.args.settings.now)
    c.loop-thread.invariant c.in_ok-steps.ensures
