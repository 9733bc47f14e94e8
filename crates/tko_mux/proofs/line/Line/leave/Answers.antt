use Rattle.std.proofs.Common.{rules, ◌≡◌, [], Some, None, ap, subst, sym, ◌∙◌}
use Rattle.tko_pipe.specs.Ends.{LeaveEnds}
use Rattle.tko_mux.specs.Lines.{LineLeaves, LineState, WasShutOn, pipe_waiters}
use Rattle.tko_mux.proofs.LeaveLemmas.{nobody_left}
use Rattle.tko_mux.proofs.line.Line.leave.Goals as goal

pub returns-then-is_none : goal.returns-then-is_none
returns-then-is_none c =
    let pipe = c.in_ok-as_mut.field-0.now in
    let none : c.leave-left.result ≡ None = search rules in
    let left : LeaveEnds pipe None c.leave-left.new.self =
    subst (λ r. LeaveEnds pipe r c.leave-left.new.self) none c.leave-left.ensures in
    let ended : c.self.inside.ended ≡ Some pipe = search rules in
    let shut = subst WasShutOn ended c.self.invariant.shut in
    let gone : pipe_waiters c.args.self.now.ended ≡ [] =
    ap (λ (l : LineState). pipe_waiters l.ended) (sym c.self.view_is) ∙ ap pipe_waiters ended
    ∙ nobody_left pipe shut left.0 in
    subst (λ r. LineLeaves c.args.self.now r c.match-self.self) (sym none) (gone, search rules)
