use Rattle.std.proofs.Common.{◌≡◌, Some, rules}
use Rattle.tko_text.specs.Responses.{Listing, Retrieval, request_kind}
use Rattle.tko_text.proofs.ResponseLemmas.{reads_kind}
use Rattle.tko_text.proofs.response.reader.take.Goals as goal

pub returns-in-Some-Single-Retrieval-clause-reads : goal.returns-in-Some-Single-Retrieval-clause-reads
returns-in-Some-Single-Retrieval-clause-reads c =
    let kind = Retrieval c.in-Some-Single-Retrieval.key.now c.in-Some-Single-Retrieval.unique in
    let of : request_kind c.args.request.now ≡ Some kind = search rules in
    reads_kind c.args.request.now kind c.args.bytes.now.items of c.take_kind.result c.take_kind.ensures.reads

pub returns-in-Some-Listing-clause-reads : goal.returns-in-Some-Listing-clause-reads
returns-in-Some-Listing-clause-reads c =
    let kind = Listing c.in-Some-Listing.keys.now c.in-Some-Listing.unique in
    let of : request_kind c.args.request.now ≡ Some kind = search rules in
    reads_kind c.args.request.now kind c.args.bytes.now.items of c.take_list.result c.take_list.ensures.reads
