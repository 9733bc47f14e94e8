use Rattle.std.proofs.Common.{◌≡◌, ◌++◌, drop, map}
use Rattle.serde_json.specs.View.{view}
use Rattle.tko_explain.specs.Reports.{rings_text}
use Rattle.tko_explain.proofs.reporting.append_rings_of.Given as goal

-- the lines so far and those of the pools that are left
abbrev pub invariant-loop-place : goal.invariant-loop-place
invariant-loop-place l =
    l.out.items ++ rings_text l.config (view l.pools) l.place (map (λ name. name.now) (drop l.place l.names))
    ≡ l.initial.out.items ++ rings_text l.config (view l.pools) 0 (map (λ name. name.now) l.names)
