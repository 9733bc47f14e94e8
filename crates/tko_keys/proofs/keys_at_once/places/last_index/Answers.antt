use Rattle.std.proofs.Common.{◌≡◌, ◌-◌, length, rules, sym, subst}
use Rattle.tko_keys.specs.KeysDriven.{IsLastAt}
use Rattle.tko_keys.proofs.SendLemmas.{last_found_at}
use Rattle.tko_keys.proofs.keys_at_once.places.last_index.Goals as goal

pub returns-then-is_to : goal.returns-then-is_to
returns-then-is_to c =
    let len : c.len.result ≡ length c.args.sends.now.items = search rules in
    subst (λ n. IsLastAt c.args.server c.args.sends.now.items (n - 1 - c.loop-back.back)) (sym len)
    (last_found_at c.args.server c.args.sends.now.items c.loop-back.back c.index.result.now
    (search rules) (search rules) c.loop-back.invariant)
