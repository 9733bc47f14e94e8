use Rattle.std.proofs.Common.{◌≡◌, ◌∷◌, [], length, map, rules}
use Rattle.std.specs.Prelude.{None, replicate, string_bytes}
use Rattle.tko_pools.proofs.InOrderLemmas.{in_order-made, in_order-targets, made-sound}
use Rattle.tko_pools.proofs.config.Config.in_order.Goals as goal

pub invariant_of-result : goal.invariant_of-result
invariant_of-result c =
    let texts = c.args.addresses.items in
    let count : c.len-2.result ≡ length texts = search rules in
    let grouped : c.in_ok-vec.field-0.items ≡ replicate (length texts) 0 = search rules in
    let limited : c.in_ok-vec-2.field-0.items ≡ None ∷ [] = search rules in
    let listed : map string_bytes c.in_ok-copy_texts.field-0.items ≡ map string_bytes texts = search rules in
    let made = in_order-made string_bytes texts _ _ _ _ _ _ c.of.ensures listed c.in_ok-children_in_order.ensures grouped limited count in
    made-sound string_bytes texts _ made c.requires.few

pub returns-clause-targets : goal.returns-clause-targets
returns-clause-targets c =
    let texts = c.args.addresses.items in
    let count : c.len-2.result ≡ length texts = search rules in
    let grouped : c.in_ok-vec.field-0.items ≡ replicate (length texts) 0 = search rules in
    let limited : c.in_ok-vec-2.field-0.items ≡ None ∷ [] = search rules in
    let listed : map string_bytes c.in_ok-copy_texts.field-0.items ≡ map string_bytes texts = search rules in
    let made = in_order-made string_bytes texts _ _ _ _ _ _ c.of.ensures listed c.in_ok-children_in_order.ensures grouped limited count in
    λ key. in_order-targets string_bytes texts _ key made
