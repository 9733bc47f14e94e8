use Rattle.std.proofs.Common.{ap, refl}
use Rattle.tko_reply.specs.Asking.{last, next}
use Rattle.tko_reply.specs.declared.asking.ReplyPart.TheVariants.{Joined}
use Rattle.tko_reply.proofs.asking.joining.join_next.Goals as goal

pub returns-in-Some-clause-ok : goal.returns-in-Some-clause-ok
returns-in-Some-clause-ok c = λ begin.
    next begin _ _ (ap (Joined begin) c.in-Some.ensures) refl c.set_key.ensures refl refl

pub returns-in_ok-append_end-in-None-clause-ok : goal.returns-in_ok-append_end-in-None-clause-ok
returns-in_ok-append_end-in-None-clause-ok c = λ begin.
    last begin (ap (Joined begin) c.in-None.ensures.0) refl c.in_ok-append_end-in-None.ensures.ok
