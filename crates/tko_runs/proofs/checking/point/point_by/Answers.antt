use Rattle.std.proofs.Common.{Some, ap, ◌∙◌}
use Rattle.tko_runs.proofs.checking.point.point_by.Goals as goal

pub returns-in_default : goal.returns-in_default
returns-in_default c = λ s of answer stands. c.open.ensures s of (answer ∙ c.in_default.is) stands

pub returns-in-Contended : goal.returns-in-Contended
returns-in-Contended c = λ s of answer stands. c.contended.ensures s of (answer ∙ c.in-Some.is ∙ ap Some c.in-Contended.is) stands

pub returns-in_default-reply : goal.returns-in_default-reply
returns-in_default-reply c = λ s of answer stands.
    c.answered.ensures c.in-Some.reply c.in_default-reply.not-Contended s of (answer ∙ c.in-Some.is) stands
