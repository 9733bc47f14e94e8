use Rattle.std.proofs.Common.{◌≡◌, set, subst}
use Rattle.tko_steps.specs.Core.{Shared, with_slots}
use Rattle.tko_steps.proofs.WordsLemmas.{shared_in, slots_are}
use Rattle.tko_steps.proofs.words.CoreWords.set.Goals as goal

pub returns : goal.returns
returns c =
    let health = c.self.inside.health.items in
    let soft = c.self.inside.soft.items in
    let new = shared_in health (set soft c.args.group c.pack_soft.result) c.self.inside.enrolled in
    let P : Shared → Type 0 = λ now. new ≡ with_slots now c.args.group (record { firm = c.args.firm; held = c.args.held }) in
    subst P c.self.view_is
    (slots_are health soft c.self.inside.enrolled c.args.group c.pack_soft.result c.args.firm c.args.held
    c.pack_soft.ensures.firm c.pack_soft.ensures.held)
