use Rattle.std.proofs.Common.{subst, sym}
use Rattle.tko_steps.specs.Core.{CoreState, after_enrol}
use Rattle.tko_steps.specs.Invariant.{IsCore}
use Rattle.tko_steps.proofs.BeginLemmas.{IsCore-after_enrol}
use Rattle.tko_steps.proofs.atomic.Core.enrol.Goals as goal

pub invariant_of-self : goal.invariant_of-self
invariant_of-self c =
    let P : CoreState → Type 0 = λ core. IsCore (after_enrol core c.args.thread) in
    let is = subst IsCore c.self.view_is c.self.invariant in
    rw (c.enrol-number.ensures.number, c.enrol-number.ensures.state)
    (subst P (sym c.self.view_is) (IsCore-after_enrol c.args.self.now c.args.thread is c.requires.thread c.requires.state))
