use Rattle.std.proofs.Common.{rules}
use Rattle.tko_text.proofs.ListingReads.{reads_error, reads_list_short}
use Rattle.tko_text.proofs.response.list.take_list.Goals as goal

pub returns-in-Err-Unreadable-clause-reads : goal.returns-in-Err-Unreadable-clause-reads
returns-in-Err-Unreadable-clause-reads c =
    reads_error c.args.keys.now c.args.unique c.args.bytes.now.items (search rules) c.read_error.result (search rules)

pub returns-in-Err-Short-clause-reads : goal.returns-in-Err-Short-clause-reads
returns-in-Err-Short-clause-reads c =
    reads_list_short c.args.keys.now c.args.unique c.args.bytes.now.items (search rules)
