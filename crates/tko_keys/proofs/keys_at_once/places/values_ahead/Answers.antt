use Rattle.std.proofs.Common.{◌∙◌, ap, sym, arith}
use Rattle.tko_keys.specs.KeysState.{has_values}
use Rattle.tko_keys.proofs.AheadLemmas.{ahead_all, ahead_more, ahead_stops}
use Rattle.tko_keys.proofs.keys_at_once.places.values_ahead.Goals as goal

pub loop-place-init : goal.loop-place-init
loop-place-init c = c.requires

pub returns-then-not-has_values : goal.returns-then-not-has_values
returns-then-not-has_values c =
    let fails = ap has_values (sym c.index-slots-place.is) ∙ sym c.has_values.ensures
    ∙ c.if-not-has_values.true in
    ahead_stops has_values c.args.slots.now c.loop-place.place c.index-slots-place.result
    c.loop-place.invariant fails

pub loop-place-preserved : goal.loop-place-preserved
loop-place-preserved c =
    let passes = ap has_values (sym c.index-slots-place.is) ∙ sym c.has_values.ensures
    ∙ c.if-not-has_values.false in
    ahead_more has_values c.args.slots.now c.loop-place.place c.index-slots-place.result
    c.loop-place.invariant c.loop-place-test.true passes

pub returns : goal.returns
returns c = ahead_all has_values c.args.slots.now
    (omega (arith, c.loop-place-test.false, c.loop-place.invariant))
