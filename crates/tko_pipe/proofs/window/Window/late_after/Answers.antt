use Rattle.std.proofs.Common.{◌≡◌, Some, sym, ap, ◌∙◌, rules, Option}
use Rattle.tko_pipe.specs.Windows.{later_after}
use Rattle.tko_pipe.proofs.window.Window.late_after.Goals as goal

pub returns-in-Some : goal.returns-in-Some
returns-in-Some c =
    let same : c.max.result ≡ later_after (Some c.in-Some.since) c.args.limit c.args.due =
    search rules in
    same ∙ ap (λ (since : Option _). later_after since c.args.limit c.args.due) (sym c.in-Some.is)
