use Rattle.std.proofs.Common.{rules}
use Rattle.tko_text.proofs.ListingLemmas.{key_among, key_from}
use Rattle.tko_text.proofs.response.list.key_index.Goals as goal

pub returns-in-Some : goal.returns-in-Some
returns-in-Some c =
    key_from c.args.keys.now c.args.key.now c.min-next.result c.in-Some.more (search rules) c.in-Some.ensures

pub returns : goal.returns
returns c = key_among c.args.keys.now c.args.key.now c.first_index-2.result c.first_index-2.ensures
