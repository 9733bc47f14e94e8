use Rattle.std.proofs.Common.{◌≡◌}
use Rattle.tko_desk.specs.Ledger.{fresh_shares}
use Rattle.tko_desk.proofs.book.Share.list.Given as goal

abbrev pub invariant-loop-place : goal.invariant-loop-place
invariant-loop-place l = l.list.items ≡ fresh_shares l.name l.place
