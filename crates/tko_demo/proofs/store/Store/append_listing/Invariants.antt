use Rattle.std.proofs.Common.{◌≡◌, ◌++◌, flat_map, drop}
use Rattle.tko_demo.specs.Answers.{found_value}
use Rattle.tko_demo.specs.Stores.{kept_at}
use Rattle.tko_demo.proofs.store.Store.append_listing.Given as goal

-- the values so far and those of the keys that are left
abbrev pub invariant-loop-key : goal.invariant-loop-key
invariant-loop-key l =
    l.out.items ++ flat_map (λ key. found_value l.numbering key (kept_at l.self key)) (drop l.key-index l.keys)
    ≡ l.initial.out.items ++ flat_map (λ key. found_value l.numbering key (kept_at l.self key)) l.keys
