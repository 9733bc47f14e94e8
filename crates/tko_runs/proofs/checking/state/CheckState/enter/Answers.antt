use Rattle.std.proofs.Common.{sym, ◌∙◌}
use Rattle.tko_runs.proofs.CheckStateLemmas.{enters_begun, enters_enrolled, enters_followed}
use Rattle.tko_runs.proofs.checking.state.CheckState.enter.Goals as goal

pub returns-in_ok-begin-in-Begin-clause-ok : goal.returns-in_ok-begin-in-Begin-clause-ok
returns-in_ok-begin-in-Begin-clause-ok c =
    enters_begun c.args.self.now c.args.event.now _ c.in-Begin.thread _ c.in-Begin.op c.in-Begin.server _ c.in-Begin.is c.requires.comes c.number-number.ensures c.in_ok-begin-in-Begin.ensures c.«record».ensures

pub returns-in_ok-step-in-Step-clause-ok : goal.returns-in_ok-step-in-Step-clause-ok
returns-in_ok-step-in-Step-clause-ok c =
    let step = c.in-Step in
    let steps = sym c.is_call_step.ensures ∙ c.if-is_call_step.true in
    enters_followed c.args.self.now c.step.new.self c.args.event.now _ step.thread step.kind step.place step.found step.left step.answer step.is steps c.requires.comes c.in_ok-step-in-Step.ensures.ok c.record-then-is_call_step.ensures

pub returns-else-is_call_step-clause-ok : goal.returns-else-is_call_step-clause-ok
returns-else-is_call_step-clause-ok c =
    let step = c.in-Step in
    let enrols = sym c.is_call_step.ensures ∙ c.if-is_call_step.false in
    enters_enrolled c.args.self.now c.args.event.now _ step.thread step.kind step.place step.found step.left step.answer step.is enrols c.requires.comes c.record-else-is_call_step.ensures
