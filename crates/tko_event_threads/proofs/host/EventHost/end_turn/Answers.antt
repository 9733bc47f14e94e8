use Rattle.tko_event_threads.proofs.TurnLemmas.{order_whatever_ended}
use Rattle.tko_event_threads.proofs.host.EventHost.end_turn.Goals as goal

pub visit-requires-clause-order : goal.visit-requires-clause-order
visit-requires-clause-order g c = order_whatever_ended _ _ _ _ _ c.take_ends.ensures.cleared c.requires.order
