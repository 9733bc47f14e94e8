use Rattle.std.proofs.Common.{Err, ℕ, List, rules, subst, sym}
use Rattle.tko_text.specs.ResponseReads.{ReadsResponse}
use Rattle.tko_text.specs.declared.response.fault.ReadFault.TheVariants as read_fault
use Rattle.tko_links.specs.Incoming.{arrival}
use Rattle.tko_links.proofs.IncomingLemmas.{awaited_after_look, still_awaited}
use Rattle.tko_links.proofs.incoming.IncomingResponse.look.Goals as goal

pub returns-then-not-is_look_due-clause-judges : goal.returns-then-not-is_look_due-clause-judges
returns-then-not-is_look_due-clause-judges c =
    still_awaited c.args.request.now (arrival c.args.self.now) c.args.count c.requires.come
    (rw c.as_bytes-bytes.ensures at c.if-not-is_look_due.ensures)

pub returns-in-Err-Short-clause-judges : goal.returns-in-Err-Short-clause-judges
returns-in-Err-Short-clause-judges c =
    let reads : ReadsResponse c.args.request.now c.args.self.now.buffer (Err read_fault.Short) = search rules in
    awaited_after_look c.args.request.now c.response.new.self c.least_len-self.result
    (subst (λ (xs : List ℕ). ReadsResponse c.args.request.now xs (Err read_fault.Short)) (sym c.in-Err-Short.ensures.err) reads)
    (rw c.as_bytes.ensures at c.least_len-self.ensures)
