use Rattle.std.proofs.Common.{refl, rules, subst, sym}
use Rattle.std.specs.Prelude.{IsSome}
use Rattle.serde_json.specs.View.{view}
use Rattle.tko_pools.proofs.ChildLemmas.{first-name, no-name-left, one-child-more, same-pool-sound}
use Rattle.tko_pools.proofs.children.children_of.Goals as goal

pub pool_named-requires : goal.pool_named-requires
pool_named-requires c =
    let first = first-name (λ name. name.now) c.args.addresses.now (view c.args.pools.now) c.args.names.now c.loop-name.name-index c.loop-name.children.items c.loop-name.invariant _ (search rules) in
    subst IsSome (sym first.named) refl

pub child_of-requires : goal.child_of-requires
child_of-requires c =
    let first = first-name (λ name. name.now) c.args.addresses.now (view c.args.pools.now) c.args.names.now c.loop-name.name-index c.loop-name.children.items c.loop-name.invariant _ (search rules) in
    same-pool-sound (view c.args.pools.now) _ (view c.pool_named.result.now) first c.pool_named.ensures

pub loop-name-preserved : goal.loop-name-preserved
loop-name-preserved c =
    one-child-more (λ name. name.now) c.args.addresses.now (view c.args.pools.now) c.args.names.now c.loop-name.name-index c.loop-name.children.items c.loop-name.invariant _
    c.in_ok-child_of.field-0 c.push.new.self.items (search rules)
    (record { pool = view c.pool_named.result.now; named = c.pool_named.ensures; is = c.in_ok-child_of.ensures })
    c.in_ok-push.ensures.items

pub returns : goal.returns
returns c =
    no-name-left (λ name. name.now) c.args.addresses.now (view c.args.pools.now) c.args.names.now c.loop-name.name-index c.loop-name.children.items c.loop-name.invariant (search rules)
