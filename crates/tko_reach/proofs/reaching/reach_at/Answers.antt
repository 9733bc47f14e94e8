use Rattle.std.proofs.lemmas.Result.{IfOk-weaker}
use Rattle.tko_reach.proofs.reaching.reach_at.Goals as goal

pub returns : goal.returns
returns g c =
    IfOk-weaker c.ask.result _ _
    (λ came asked. record { after = c.ask.new.wire; asked = rw c.in_ok-wire.ensures at asked })
    c.ask.ensures
