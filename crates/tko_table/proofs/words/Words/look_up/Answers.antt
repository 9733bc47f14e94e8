use Rattle.std.proofs.Common.{ap, refl, subst}
use Rattle.tko_model.specs.Settings.{Settings}
use Rattle.tko_model.specs.declared.state.ServerState.{ServerState}
use Rattle.tko_model.specs.Tracker.{IsFit}
use Rattle.tko_word.specs.Words.{IsMarkOf}
use Rattle.tko_steps.specs.declared.phase.Phase.TheVariants.{Start}
use Rattle.tko_steps.specs.declared.table.Observed.{Observed}
use Rattle.tko_steps.specs.declared.table.Observed.TheVariants as read
use Rattle.tko_table.specs.Steps.{Took, IsSoundWord, view_of}
use Rattle.tko_table.proofs.words.Words.look_up.Goals as goal

pub unpack-mark-requires : goal.unpack-mark-requires
unpack-mark-requires c =
    (c.load_as.ensures.looked.sound c.requires.stands.pass c.requires.stands.alone).valid

pub returns-clause-step : goal.returns-clause-step
returns-clause-step c =
    let at = c.requires.stands in
    let took = c.load_as.ensures.looked.plays at.pass c.args.call.now Start at.alone refl at.stands in
    let P : Observed → Type 0 = λ it. Took (view_of c.args.seat.now) c.args.call.now Start it (view_of c.load_as.new.seat) in
    subst P (ap read.Server c.unpack-mark.ensures.read) took

pub returns-clause-sound : goal.returns-clause-sound
returns-clause-sound c =
    let at = c.requires.stands in
    let sound = c.load_as.ensures.looked.sound at.pass at.alone in
    let P : Settings → Type 0 = λ it. IsSoundWord it c.load_as.result in
    let here = subst P at.settings sound in
    let Q : ServerState → Type 0 = λ it.
    IsMarkOf c.args.self.now.settings it.mark × IsFit c.args.self.now.settings it.mark it.stamp in
    subst Q c.unpack-mark.ensures.read (here.allowed, here.fit)
