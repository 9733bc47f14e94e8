use Rattle.std.proofs.lemmas.Result.{IfErr-weaker, IfOk-weaker}
use Rattle.tko_options.proofs.AskedLemmas.{read_from, refused_among, refused_by}
use Rattle.tko_options.proofs.asked.Asked.read.Goals as goal

pub returns-in-Ok-clause-read : goal.returns-in-Ok-clause-read
returns-in-Ok-clause-read c =
    IfOk-weaker c.among.result _ _
    (λ asked asks. read_from _ _ c.in-Ok.matches asked c.in_ok-program.ensures.shape c.in-Ok.ensures.matches asks)
    c.among.ensures.asks

pub returns-in-Err-clause-refused : goal.returns-in-Err-clause-refused
returns-in-Err-clause-refused c =
    refused_by _ _ c.of.result c.in_ok-program.ensures.shape c.in-Err.ensures.passes c.of.ensures

pub returns-in-Ok-clause-refused : goal.returns-in-Ok-clause-refused
returns-in-Ok-clause-refused c =
    IfErr-weaker c.among.result _ _
    (λ why for. refused_among _ _ c.in-Ok.matches why c.in_ok-program.ensures.shape
    c.in-Ok.ensures.matches for)
    c.among.ensures.refused
