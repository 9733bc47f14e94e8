use Rattle.std.proofs.Common.{◌≡◌, ◌∷◌, ◌++◌, ◌+◌, ◌<◌, true, false, Some, None, [], length, take}
use Rattle.std.proofs.Common.{append-nil, append_assoc, rules, refl, subst, sym, ap, ◌∙◌}
use Rattle.std.specs.VecDeque.{deque_capacity}
use Rattle.tko_keys.specs.KeyLines.{PutsAs}
use Rattle.tko_keys.proofs.LineLemmas.{FilledFor, filled_none, popped, step_passed, step_put}
use Rattle.tko_keys.proofs.LineLemmas.{step_short}
use Rattle.tko_keys.proofs.keys_at_once.sending.fill.Goals.{in-Some-true, in-Some-false, in-None}
use Rattle.tko_keys.proofs.keys_at_once.sending.fill.Goals as goal

pub loop-init : goal.loop-init
loop-init c = ([], sym (append-nil c.args.due.now.items), λ unique keys was. filled_none was, refl)

pub loop-preserved : goal.loop-preserved
loop-preserved c =
    let i = c.loop.counter in
    let all = c.args.due.now.items in
    let stay = c.loop.invariant.0 in
    let it = c.in-Some.it in
    let new = c.put.new.line in
    let within : c.loop.counter < length c.args.due.now.items = search rules in
    let off : c.loop.due.items ≡ c.in-Some.it ∷ c.pop_front.new.self.items = search rules in
    let p = popped all stay c.loop.due.items c.pop_front.new.self.items i it within
    c.loop.invariant.1 off in
    elim c.match-put.branch [
      | in-Some-true w ↦
          let due : c.match-put.due.items ≡ c.pop_front.new.self.items = search rules in
          let room : deque_capacity c.match-put.due ≡ deque_capacity c.args.due.now =
          search rules in
          let is : c.put.result ≡ Some true = search rules in
          let short : c.match-put.short ≡ c.loop.short = search rules in (
            stay,
            due ∙ p.0,
            subst (λ b. FilledFor c.args.slots.now c.args.server b
                (take (i + 1) all) c.args.line.now stay new) (sym short)
                (step_put new all i it c.loop.invariant.2 p.1
                (λ unique keys was. subst (λ r. PutsAs unique c.args.slots.now c.args.server r keys
                it c.loop.line new) is (c.put.ensures unique keys was))),
            room,
          )
      | in-Some-false w ↦
          let due : c.match-put.due.items ≡ c.pop_front.new.self.items ++ c.in-Some.it ∷ [] =
          search rules in
          let room : deque_capacity c.match-put.due ≡ deque_capacity c.args.due.now =
          search rules in
          let is : c.put.result ≡ Some false = search rules in
          let short : c.match-put.short ≡ c.loop.short = search rules in (
            stay ++ it ∷ [],
            due ∙ ap (λ xs. xs ++ it ∷ []) p.0 ∙ append_assoc _ stay (it ∷ []),
            subst (λ b. FilledFor c.args.slots.now c.args.server b
                (take (i + 1) all) c.args.line.now (stay ++ it ∷ []) new) (sym short)
                (step_passed new all i it c.loop.invariant.2 p.1
                (λ unique keys was. subst (λ r. PutsAs unique c.args.slots.now c.args.server r keys
                it c.loop.line new) is (c.put.ensures unique keys was))),
            room,
          )
      | in-None w ↦
          let due : c.match-put.due.items ≡ c.pop_front.new.self.items ++ c.in-Some.it ∷ [] =
          search rules in
          let room : deque_capacity c.match-put.due ≡ deque_capacity c.args.due.now =
          search rules in
          let is : c.put.result ≡ None = search rules in
          let short : c.match-put.short ≡ true = search rules in (
            stay ++ it ∷ [],
            due ∙ ap (λ xs. xs ++ it ∷ []) p.0 ∙ append_assoc _ stay (it ∷ []),
            subst (λ b. FilledFor c.args.slots.now c.args.server b
                (take (i + 1) all) c.args.line.now (stay ++ it ∷ []) new) (sym short)
                (step_short new all i it c.loop.invariant.2 p.1
                (λ unique keys was. subst (λ r. PutsAs unique c.args.slots.now c.args.server r keys
                it c.loop.line new) is (c.put.ensures unique keys was))),
            room,
          )
    ]
