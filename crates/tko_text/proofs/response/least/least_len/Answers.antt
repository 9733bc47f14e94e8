use Rattle.std.proofs.Common.{◌≡◌, Some, rules}
use Rattle.tko_text.specs.ResponseKinds.{kind_seen}
use Rattle.tko_text.specs.Responses.{request_kind}
use Rattle.tko_text.proofs.ResponseLengthLemmas.{least_kind, least_none}
use Rattle.tko_text.proofs.response.least.least_len.Goals as goal

pub returns-in-Some-Single : goal.returns-in-Some-Single
returns-in-Some-Single c =
    let of : request_kind c.args.request.now ≡ Some (kind_seen c.in-Some-Single.kind) = search rules in
    least_kind c.args.request.now (kind_seen c.in-Some-Single.kind) c.args.bytes.now _ of c.least_of.ensures

pub returns-in-Some-Listing : goal.returns-in-Some-Listing
returns-in-Some-Listing c = least_none c.args.request.now c.args.bytes.now

pub returns-in-None : goal.returns-in-None
returns-in-None c = least_none c.args.request.now c.args.bytes.now
