use Rattle.std.proofs.Common.{rules, ◌≡◌, ◌∷◌, ◌∙◌, Some, ap, drop, slice_get}
use Rattle.tko_pipe.specs.Pipes.{PipeState}
use Rattle.tko_pipe.proofs.PipeLemmas.{answered, first_and_others, read_by_first}
use Rattle.tko_pipe.proofs.pipe.Pipe.drop_connected.Goals as goal

pub returns-in-Ok : goal.returns-in-Ok
returns-in-Ok c = λ form is.
    let first = c.in-Some.first.now in
    let others = drop 1 c.self.inside.waiters.items in
    let waiters : c.self.inside.waiters.items ≡ first ∷ others =
    first_and_others c.self.inside.waiters.items first (search rules) (search rules) in
    let is_form : slice_get c.self.inside.forms.items 0 ≡ Some form =
    ap (λ (s : PipeState). slice_get s.forms 0) c.self.view_is ∙ is in
    answered _ c.args.self.now form first others c.in-Ok.response c.read_by_form.new.unread
    c.end_first.new.self c.self.view_is (search rules) waiters (search rules) (search rules)
    (read_by_first first.by form c.self.inside.forms.items is_form)
    (c.in-Ok.ensures.ok form is_form) (c.end_first.ensures first others waiters)
