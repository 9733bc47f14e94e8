use Rattle.std.proofs.Common.{◌≡◌, ◌+◌, ◌<◌, ◌^◌, drop, sum_by}
use Rattle.tko_bytes.specs.Numbers.{capped}
use Rattle.tko_rounds.proofs.rounds.sum_of.Given as goal

abbrev pub invariant-loop-count : goal.invariant-loop-count
invariant-loop-count l = record {
  sum : capped (l.sum + sum_by (λ count. count) (drop l.count-index l.counts)) ≡ capped (sum_by (λ count. count) l.counts);
  fits : l.sum < 2 ^ 64;
}
