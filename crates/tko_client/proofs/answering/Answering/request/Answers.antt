use Rattle.std.proofs.Common.{◌∙◌, ap, subst, sym}
use Rattle.std.specs.Prelude.{IsSome, Some}
use Rattle.tko_client.specs.Answerings.{asked_with}
use Rattle.tko_client.proofs.ClientLemmas.{request_is}
use Rattle.tko_client.proofs.UnderWayLemmas.{last_out}
use Rattle.tko_client.proofs.answering.Answering.request.Goals as goal

pub request-requires : goal.request-requires
request-requires c = last_out c.get.result.now
    (subst (λ k. IsSome (asked_with k c.args.self.now.session.work))
    (c.in-Some.is ∙ ap Some (sym c.get.ensures)) c.requires)

pub returns-in-None : goal.returns-in-None
returns-in-None c = request_is c.args.self.now c.request-in-None.result.now c.in-None.is c.requires
    c.request-in-None.ensures
