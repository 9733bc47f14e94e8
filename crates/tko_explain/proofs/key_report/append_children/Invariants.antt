use Rattle.std.proofs.Common.{◌≡◌, ◌++◌, drop, map, slice_index}
use Rattle.serde_json.specs.View.{view}
use Rattle.tko_explain.specs.Counts.{row_count}
use Rattle.tko_explain.specs.KeyReports.{children_keys, if_compared}
use Rattle.tko_explain.proofs.key_report.append_children.Given as goal

-- the lines so far and those of the pools that are left
abbrev pub invariant-loop-place : goal.invariant-loop-place
invariant-loop-place l =
    l.out.items
    ++ children_keys l.tally.config (view l.pools) (row_count l.tally.children.items)
    (λ place. if_compared l.tally.compared (slice_index l.tally.moved place)) l.place
    (map (λ name. name.now) (drop l.place l.names))
    ≡ l.initial.out.items
    ++ children_keys l.tally.config (view l.pools) (row_count l.tally.children.items)
    (λ place. if_compared l.tally.compared (slice_index l.tally.moved place)) 0
    (map (λ name. name.now) l.names)
