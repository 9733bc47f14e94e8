use Rattle.std.specs.Prelude.{sum_by}
use Rattle.std.proofs.Common.{refl, subst}
use Rattle.tko_bytes.specs.Numbers.{capped}
use Rattle.tko_rounds.specs.Workers.{parts_in}
use Rattle.tko_event_threads.specs.Turns.{IsTurnEnd}
use Rattle.tko_event_threads.proofs.TurnLemmas.{host_round}
use Rattle.tko_event_threads.proofs.host.EventHostHostLentAccountedEventClient.round.Goals as goal

pub returns-clause-round : goal.returns-clause-round
returns-clause-round g c =
    let ran = c.run-rounded.ensures in
    let old = c.args.worker.now.clients.mux.roster.parts.parts.parts in
    let mid = c.run-rounded.new.worker.clients.mux.roster.parts.parts.parts in
    let new = c.end_turn.new.worker.clients.mux.roster.parts.parts.parts in
    host_round g.H.Health c.args.moment c.args.due _ _ _ _ old mid new _ _ _ c.is_err.ensures.value ran.round
    refl refl ran.only.parts.others (subst (λ worker. IsTurnEnd c.tell.new.worker.clients.ends c.is_err.result
    (capped (sum_by (λ count. count) c.tell.new.self.rounds.counts)) (parts_in worker.clients)
    (parts_in c.end_turn.new.worker.clients)) c.tell.ensures.same c.end_turn.ensures.counted)
