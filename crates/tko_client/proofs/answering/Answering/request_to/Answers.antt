use Rattle.std.proofs.Common.{◌∙◌, ap, sym}
use Rattle.std.specs.Prelude.{Some}
use Rattle.tko_client.proofs.ClientLemmas.{request_to_is}
use Rattle.tko_client.proofs.SentToLemmas.{keys_awaits}
use Rattle.tko_client.proofs.answering.Answering.request_to.Goals as goal

pub request_to-requires : goal.request_to-requires
request_to-requires c = keys_awaits c.args.self.now c.get.result.now c.args.server
    (c.in-Some.is ∙ ap Some (sym c.get.ensures)) c.requires

pub returns-in-None : goal.returns-in-None
returns-in-None c = request_to_is c.args.self.now c.args.server c.request.result.now c.in-None.is
    c.requires c.request.ensures
