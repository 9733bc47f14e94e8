use Rattle.std.proofs.Common.{◌≡◌, Some, rules, sym}
use Rattle.tko_text.specs.ResponseKinds.{kind_seen}
use Rattle.tko_text.specs.Responses.{Listing, request_kind}
use Rattle.tko_text.proofs.ResponseLemmas.{reads_kind, reads_unsent}
use Rattle.tko_text.proofs.response.reader.read.Goals as goal

pub returns-in-Some-Single-clause-reads : goal.returns-in-Some-Single-clause-reads
returns-in-Some-Single-clause-reads c =
    let of : request_kind c.args.request.now ≡ Some (kind_seen c.in-Some-Single.kind) = search rules in
    reads_kind c.args.request.now (kind_seen c.in-Some-Single.kind) c.args.bytes.now of c.read_kind.result c.read_kind.ensures.reads

pub returns-in-Some-Listing-clause-reads : goal.returns-in-Some-Listing-clause-reads
returns-in-Some-Listing-clause-reads c =
    let kind = Listing c.in-Some-Listing.keys.now c.in-Some-Listing.unique in
    let of : request_kind c.args.request.now ≡ Some kind = search rules in
    reads_kind c.args.request.now kind c.args.bytes.now of c.read_list.result c.read_list.ensures.reads

pub returns-in-None-clause-reads : goal.returns-in-None-clause-reads
returns-in-None-clause-reads c = reads_unsent c.args.request.now c.args.bytes.now (sym c.in-None.ensures)
