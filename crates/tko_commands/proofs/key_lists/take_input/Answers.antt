use Rattle.std.proofs.Common.{◌≡◌, Ok, ap, arith, refl, rules}
use Rattle.tko_commands.proofs.KeyListLemmas.{taken_all, taken_more, taken_none}
use Rattle.tko_commands.proofs.key_lists.take_input.Goals as goal

pub loop-init : goal.loop-init
loop-init g c =
    (taken_none g.I.Inlet.gives g.met.I.Inlet.nothing c.args.input.now c.args.counts.now, refl, c.requires)

pub returns-in-Ok-eq0-clause-ok : goal.returns-in-Ok-eq0-clause-ok
returns-in-Ok-eq0-clause-ok g c =
    let none : c.in-Ok-eq0.field-0 ≡ 0 = search rules in
    taken_all g.I.Inlet.gives g.I.Inlet.is_ended _ _ _ _
    (taken_more g.I.Inlet.gives g.met.I.Inlet.goes_on _ c.loop.input _ _ c.loop.counts _ c.loop.invariant.0
    c.in-Ok-eq0.ensures.ok)
    (c.in-Ok-eq0.ensures.ended (ap Ok none))

pub loop-preserved : goal.loop-preserved
loop-preserved g c = (
  taken_more g.I.Inlet.gives g.met.I.Inlet.goes_on _ c.loop.input _ _ c.loop.counts _ c.loop.invariant.0
      c.in-Ok.ensures.ok,
  omega (arith, c.in-Ok.ensures.calm, c.loop.invariant.1),
  omega (arith, c.loop.invariant.2, c.take_piece.auto.buffer),
)
