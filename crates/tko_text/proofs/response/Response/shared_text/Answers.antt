use Rattle.std.proofs.Common.{◌≡◌, Some, rules}
use Rattle.tko_text.specs.declared.response.Response.TheVariants.{Values}
use Rattle.tko_text.proofs.ResponseWriteLemmas.{shared_whole}
use Rattle.tko_text.proofs.response.Response.shared_text.Goals as goal

pub returns-in-Values-Some : goal.returns-in-Values-Some
returns-in-Values-Some c =
    let is : c.args.self.now ≡ Values (Some c.in-Values-Some.value) = search rules in
    shared_whole c.args.self.now c.in-Values-Some.value c.shared_text.result is c.shared_text.ensures
