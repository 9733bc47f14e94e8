use Rattle.std.proofs.Common.{arith, ◌≡◌, ◌<◌, ◌^◌, ◌∙◌, ℕ, ap, sym, subst, get_or, slice_set}
use Rattle.tko_pools.specs.Children.{Child, hash_by, hash_server, key_target}
use Rattle.tko_pools.proofs.TargetLemmas.{next_below, next_made, next_was}
use Rattle.tko_pools.proofs.targets.push_targets.Goals as goal

-- src/targets.rt:22:39
pub overflow_cast-index : goal.overflow_cast-index
overflow_cast-index c =
    let place : ℕ = c.loop-place.place in
    let hash : Child → ℕ = λ child. hash_by child c.args.key.now in
    let read = c.index.ensures ∙ ap (λ items. get_or items place c.index.result.now) c.loop-place.invariant.0 in
    let small : c.index.result.now < 2 ^ 32 = subst (λ n. n < 2 ^ 32) (sym read)
    (next_below (key_target c.args.key.now) hash c.args.children.now place c.index-children-place.result
    c.index.result.now (2 ^ 32) c.loop-place-test.true c.loop-place.invariant.1) in
    omega (arith, small)

-- src/targets.rt:21:5
pub loop-place-preserved : goal.loop-place-preserved
loop-place-preserved c =
    let place : ℕ = c.loop-place.place in
    let child = c.index-children-place.result in
    let hash : Child → ℕ = λ child. hash_by child c.args.key.now in
    let target = key_target c.args.key.now in
    let read = c.index.ensures ∙ ap (λ items. get_or items place c.index.result.now) c.loop-place.invariant.0
    ∙ next_was target hash c.args.children.now place child c.index.result.now c.loop-place-test.true c.index-children-place.is in
    let is : c.server.result ≡ target child = c.server.ensures ∙ ap (hash_server child) read in (
      ap (λ items. slice_set items place c.server.result) c.loop-place.invariant.0
          ∙ ap (slice_set _ place) is
          ∙ next_made target hash c.args.children.now place child c.loop-place-test.true c.index-children-place.is,
      c.loop-place.invariant.1,
    )
