use Rattle.std.proofs.Common.{◌≡◌, ◌++◌, drop, map}
use Rattle.tko_explain.specs.Repeats.{names_again}
use Rattle.tko_explain.proofs.repeats.append_names.Given as goal

-- the lines so far and those of the names that are left
abbrev pub invariant-loop-index : goal.invariant-loop-index
invariant-loop-index l =
    l.out.items ++ names_again l.before l.place (map (λ name. name.now) (drop l.index l.names))
    ≡ l.initial.out.items ++ names_again l.before l.place (map (λ name. name.now) l.names)
