use Rattle.std.proofs.Common.{false, take}
use Rattle.tko_model.specs.Records.{Gains}
use Rattle.tko_threads.specs.Accounts.{IsCounted, ledger}
use Rattle.tko_threads.proofs.account.add_kinds.Given as goal

-- the kinds so far were counted
abbrev pub invariant-loop-kind : goal.invariant-loop-kind
invariant-loop-kind l =
    Gains (IsCounted l.counts) (ledger l.fn.book l.fn.share false) (take l.kind-index l.kinds)
    (ledger l.book l.share l.full)
