use Rattle.std.proofs.Common.{arith, ap, refl}
use Rattle.tko_client.specs.Handings.{refused, taken}
use Rattle.tko_client.proofs.handing.hand_over.Goals as goal

pub returns-in-Ok-clause-handed : goal.returns-in-Ok-clause-handed
returns-in-Ok-clause-handed c =
    taken c.in-Some.request c.in-Ok.keys
    (omega (arith, c.if-it-le1.false)) c.in-Some.ensures.some c.in-Ok.ensures refl refl

pub returns-in-Err-clause-handed : goal.returns-in-Err-clause-handed
returns-in-Err-clause-handed c =
    refused c.in-Some.request c.hand_over.new.self c.in-Some.ensures.some
    (ap (λ s. record c.args.it.now { session = s }) c.drop_request.ensures) refl
