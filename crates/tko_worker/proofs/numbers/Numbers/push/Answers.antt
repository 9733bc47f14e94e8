use Rattle.std.proofs.Common.{rules, ◌≡◌, ◌∷◌, ◌++◌, [], subst, sym}
use Rattle.tko_worker.specs.Numbers.{AreFlagged}
use Rattle.tko_worker.proofs.NumbersLemmas.{flags_more}
use Rattle.tko_worker.proofs.numbers.Numbers.push.Goals as goal

pub invariant_of-self-2 : goal.invariant_of-self-2
invariant_of-self-2 c =
    let items : c.push_back.new.self.items ≡ c.self.inside.queue.items ++ c.args.number ∷ [] =
    search rules in
    subst (λ it. AreFlagged c.flag.new.flags.items it) (sym items)
    (flags_more c.self.inside.flags.items c.flag.new.flags.items c.args.number
    c.self.inside.queue.items c.self.invariant c.flag.ensures)
