use Rattle.std.proofs.Common.{rules}
use Rattle.tko_demo.proofs.PlayLemmas.{due_answered, on_ok, on_ok_so, other_answered}
use Rattle.tko_demo.specs.Playing.{Later, Now, Wrong}
use Rattle.tko_demo.specs.declared.exchange.Exchange.TheVariants.{Marked, Unmarked}
use Rattle.tko_demo.proofs.playing.play_until_unmarked.Goals as goal

pub returns-in-Due-clause-waited : goal.returns-in-Due-clause-waited
returns-in-Due-clause-waited g c =
    on_ok _ c.show.result (c.loop.invariant.0 c.ask.new.caller (Now c.loop.caller c.ask.new.caller
    (due_answered g.I.Inlet g.C.Outlet c.args.at.now.near.now c.args.at.now.far.now Unmarked Marked c.loop.caller c.ask.new.caller
    c.in_ok-ask.field-0 c.in-Due.is c.in_ok-ask.ensures.ok)))

pub returns-in-Wrong-clause-err : goal.returns-in-Wrong-clause-err
returns-in-Wrong-clause-err g c =
    Wrong Unmarked Marked c.loop.caller c.in_ok-ask.field-0 c.in_ok-ask.ensures.ok
    (λ same. let clash = c.in-Wrong.is in cc) (λ same. let clash = c.in-Wrong.is in cc)

pub loop-preserved : goal.loop-preserved
loop-preserved g c = (
  (λ last after. c.loop.invariant.0 last (Later c.loop.caller c.ask.new.caller last
      (other_answered g.I.Inlet g.C.Outlet c.args.at.now.near.now c.args.at.now.far.now Unmarked Marked c.loop.caller c.ask.new.caller
      c.in_ok-ask.field-0 c.in-Other.is c.in_ok-ask.ensures.ok) after)),
  search rules,
)

pub returns-clause-waited : goal.returns-clause-waited
returns-clause-waited g c =
    on_ok_so _ _ c.play_one.result
    (λ answered. c.loop.invariant.0 c.play_one.new.caller (Now c.loop.caller c.play_one.new.caller answered))
    c.play_one.ensures.answered
