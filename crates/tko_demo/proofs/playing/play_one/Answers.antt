use Rattle.std.proofs.lemmas.Result.{err_from_is_err_and}
use Rattle.tko_demo.proofs.PlayLemmas.{memory_fails}
use Rattle.tko_demo.specs.Playing.{Wrong}
use Rattle.tko_demo.proofs.playing.play_one.Goals as goal

pub returns-in_err-ask-clause-err : goal.returns-in_err-ask-clause-err
returns-in_err-ask-clause-err g c =
    let p = err_from_is_err_and c.from_residual.result c.from_residual.ensures.1 in
    rw (p.1, p.2)
    (memory_fails g.I.Inlet g.C.Outlet c.args.at.now.near.now c.args.at.now.far.now g.O.Outlet.failures c.args.output.now
    c.args.output.now c.args.output.now c.ask.new.caller _ c.in_err-ask.ensures.err)

pub returns-in_ok-show_wrong-in-Wrong-clause-err : goal.returns-in_ok-show_wrong-in-Wrong-clause-err
returns-in_ok-show_wrong-in-Wrong-clause-err g c =
    Wrong c.args.exchange c.args.exchange c.args.caller.now c.in_ok-ask.field-0 c.in_ok-ask.ensures.ok
    (λ same. let clash = c.in-Wrong.is in cc) (λ same. let clash = c.in-Wrong.is in cc)
