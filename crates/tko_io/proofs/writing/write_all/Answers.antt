use Rattle.std.proofs.Common.{rules, ◌∙◌, arith, length-take, length-drop}
use Rattle.tko_io.proofs.ListLemmas.{take-next}
use Rattle.tko_io.proofs.WriteLemmas.{writes_some, writes_failed}
use Rattle.tko_io.proofs.writing.write_all.Goals as goal

pub returns-in_default-clause-part : goal.returns-in_default-clause-part
returns-in_default-clause-part g c = record {
  count = c.loop.at;
  within = search rules;
  front = writes_failed g.met.O.Outlet.goes_on c.loop.invariant.1 c.in_default.ensures.none;
}

pub loop-preserved : goal.loop-preserved
loop-preserved g c =
    let some = c.in-Some-write_some.ensures in
    let within = simp (length-take, length-drop) at some.within in (
      omega (arith, within),
      rw (take-next c.args.text.now c.loop.at c.in-Some-write_some.count) (writes_some g.met.O.Outlet.goes_on c.loop.invariant.1 some.takes (simp (length-take, length-drop) (omega (arith, within, c.saturating_add.ensures)))),
      some.calm ∙ c.loop.invariant.2,
    )
