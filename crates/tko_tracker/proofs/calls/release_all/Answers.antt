use Rattle.std.proofs.Common.{◌+◌, ◌≤◌, ◌∙◌, ap, arith, subst, sym}
use Rattle.tko_table.specs.declared.words.Words.{Words}
use Rattle.tko_tracker.specs.Seated.{tracker_of}
use Rattle.tko_tracker.proofs.RetireLemmas.{IsReleased, released-skip}
use Rattle.tko_tracker.proofs.ReleasedLemmas.{released-all, released-next}
use Rattle.tko_tracker.proofs.calls.release_all.Goals.{then-owns, else-owns}
use Rattle.tko_tracker.proofs.calls.release_all.Goals as goal

pub loop-server-preserved : goal.loop-server-preserved
loop-server-preserved c =
    let tracker = tracker_of c.args.words.now in
    let first = c.args.pass.now in
    let at = c.loop-server in
    elim c.if-owns.branch [
      | then-owns w ↦
          subst (λ it. IsReleased tracker first it (at.server + 1)) (sym w.pass-is)
          (released-next tracker first at.pass w.call.new.pass at.server w.call.result at.invariant
          (sym c.owns.ensures ∙ w.if-owns.true) w.call.ensures)
      | else-owns w ↦
          subst (λ it. IsReleased tracker first it (at.server + 1)) (sym w.pass-is)
          (released-skip tracker first at.pass at.server at.invariant (sym c.owns.ensures ∙ w.if-owns.false))
    ]

pub returns : goal.returns
returns c =
    let tracker = tracker_of c.args.words.now in
    let at = c.loop-server in
    released-all tracker c.args.pass.now at.pass at.server c.number.result at.invariant
    (let servers = ap (λ (it : Words). it.settings.servers) c.words.view_is in
    let all : tracker.settings.servers ≤ at.server = omega (arith, servers, c.loop-server-test.false) in all)
    c.number.ensures.below c.number.ensures.number
