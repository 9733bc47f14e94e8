use Rattle.tko_runs.proofs.PrintLemmas.{run_told}
use Rattle.std.proofs.Common.{ap}
use Rattle.tko_runs.specs.States.{RunState}
use Rattle.tko_runs.proofs.run.Run.print.Goals as goal

pub returns : goal.returns
returns c =
    run_told
    c.args.self.now c.args.order.now c.events-events.result.now _ c.in_ok-state.state.words _ _ _ _
    c.new-out.result.items c.append_lines.new.out.items c.append_order.new.out.items
    c.append_servers.new.out.items c.append_soft_words.new.out.items _
    c.events-events.ensures.value
    c.skips.ensures
    (ap (λ (state : RunState). state.words) (rw c.settings.ensures.value at c.in_ok-state.ensures))
    c.servers.ensures
    c.soft_words.ensures
    c.version.ensures
    c.version-2.ensures
    c.new-out.ensures.items
    c.in_ok-append_lines.ensures
    (rw (← c.points.ensures) c.in_ok-append_order.ensures)
    c.in_ok-append_servers.ensures
    c.in_ok-append_soft_words.ensures
    c.in_ok-extend_from_slice.ensures.items
