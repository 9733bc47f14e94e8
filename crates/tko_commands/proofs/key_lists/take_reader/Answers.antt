use Rattle.std.proofs.Common.{◌≡◌, Ok, ap, arith, rules}
use Rattle.tko_commands.proofs.KeyListLemmas.{loses_more, loses_none, taken_all, taken_more, taken_none}
use Rattle.tko_commands.specs.KeyLists.{is_read, loses}
use Rattle.tko_commands.proofs.key_lists.take_reader.Goals as goal

pub loop-init : goal.loop-init
loop-init g c =
    (taken_none (loses g.F.Read.remaining) (loses_none g.F.Read.remaining) c.args.file.now c.args.counts.now, c.requires)

pub returns-in-Ok-eq0-clause-ok : goal.returns-in-Ok-eq0-clause-ok
returns-in-Ok-eq0-clause-ok g c =
    let left = g.F.Read.remaining in
    let none : c.in-Ok-eq0.field-0 ≡ 0 = search rules in
    taken_all (loses left) (is_read left) _ _ _ _
    (taken_more (loses left) (loses_more left) _ c.loop.file _ _ c.loop.counts _ c.loop.invariant.0
    c.in-Ok-eq0.ensures.ok)
    (c.in-Ok-eq0.ensures.ended (ap Ok none))

pub loop-preserved : goal.loop-preserved
loop-preserved g c =
    let left = g.F.Read.remaining in (
      taken_more (loses left) (loses_more left) _ c.loop.file _ _ c.loop.counts _ c.loop.invariant.0
          c.in-Ok.ensures.ok,
      omega (arith, c.loop.invariant.1, c.take_part.auto.buffer),
    )
