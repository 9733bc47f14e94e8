use Rattle.std.proofs.Common.{◌∙◌}
use Rattle.tko_model.proofs.RecordLemmas.{gains_push}
use Rattle.tko_worker.proofs.CountLemmas.{counts_on, once_served, served_counts, served_on}
use Rattle.tko_worker.proofs.ActedLemmas.{acted_on}
use Rattle.tko_worker.proofs.serving.is_spent.Goals as goal

pub returns-in-Rests-clause-counted : goal.returns-in-Rests-clause-counted
returns-in-Rests-clause-counted g c =
    counts_on (g.T.Talking.awaited, g.T.Talking.talk, g.L.Port.port) (λ guest. g.T.Talking.asks_for guest.talk)
    c.args.number c.args.due c.args.mux.now c.loop.mux c.serve_once.new.mux c.loop.ends
    c.args.ends.now c.serve_once.new.ends c.loop.invariant.asked.0 c.loop.invariant.asked.1
    c.loop.invariant.ends c.in-Rests.ensures.ends.1

pub returns-in-Rests-clause-acted : goal.returns-in-Rests-clause-acted
returns-in-Rests-clause-acted g c =
    acted_on (g.T.Talking.awaited, g.T.Talking.talk, g.L.Port.port)
    (c.args.mux.now.roster, c.args.ends.now) (c.loop.mux.roster, c.loop.ends)
    (c.serve_once.new.mux.roster, c.serve_once.new.ends) c.loop.invariant.acted c.serve_once.ensures.acted

pub returns-in-Later-clause-ends : goal.returns-in-Later-clause-ends
returns-in-Later-clause-ends g c = record {
  rests = tt;
  served = served_on (g.T.Talking.awaited, g.T.Talking.talk, g.L.Port.port)
      (λ guest. g.T.Talking.asks_for guest.talk)
      c.args.number c.args.due c.args.mux.now c.loop.mux c.serve_once.new.mux
      c.loop.invariant.asked.0 c.loop.invariant.asked.1
      c.in-Later.ensures.ends.0;
  none = c.in-Later.ensures.ends.1 ∙ c.loop.invariant.ends;
}

pub returns-in-Later-clause-counted : goal.returns-in-Later-clause-counted
returns-in-Later-clause-counted g c =
    served_counts (g.T.Talking.awaited, g.T.Talking.talk, g.L.Port.port) (λ guest. g.T.Talking.asks_for guest.talk)
    c.args.number c.args.due c.args.mux.now c.serve_once.new.mux c.args.ends.now c.serve_once.new.ends
    (served_on (g.T.Talking.awaited, g.T.Talking.talk, g.L.Port.port) (λ guest. g.T.Talking.asks_for guest.talk)
    c.args.number c.args.due c.args.mux.now c.loop.mux c.serve_once.new.mux
    c.loop.invariant.asked.0 c.loop.invariant.asked.1
    c.in-Later.ensures.ends.0)
    (c.in-Later.ensures.ends.1 ∙ c.loop.invariant.ends)

pub returns-in-Later-clause-acted : goal.returns-in-Later-clause-acted
returns-in-Later-clause-acted g c =
    acted_on (g.T.Talking.awaited, g.T.Talking.talk, g.L.Port.port)
    (c.args.mux.now.roster, c.args.ends.now) (c.loop.mux.roster, c.loop.ends)
    (c.serve_once.new.mux.roster, c.serve_once.new.ends) c.loop.invariant.acted c.serve_once.ensures.acted

pub returns-in-Rests-serve_once-clause-counted : goal.returns-in-Rests-serve_once-clause-counted
returns-in-Rests-serve_once-clause-counted g c =
    counts_on (g.T.Talking.awaited, g.T.Talking.talk, g.L.Port.port) (λ guest. g.T.Talking.asks_for guest.talk)
    c.args.number c.args.due c.args.mux.now c.loop.mux c.serve_once-2.new.mux c.loop.ends
    c.args.ends.now c.serve_once-2.new.ends c.loop.invariant.asked.0 c.loop.invariant.asked.1
    c.loop.invariant.ends c.in-Rests-serve_once.ensures.ends.1

pub returns-in-Rests-serve_once-clause-acted : goal.returns-in-Rests-serve_once-clause-acted
returns-in-Rests-serve_once-clause-acted g c =
    acted_on (g.T.Talking.awaited, g.T.Talking.talk, g.L.Port.port)
    (c.args.mux.now.roster, c.args.ends.now) (c.loop.mux.roster, c.loop.ends)
    (c.serve_once-2.new.mux.roster, c.serve_once-2.new.ends) c.loop.invariant.acted c.serve_once-2.ensures.acted

pub returns-in-AsksMore-serve_once-clause-counted : goal.returns-in-AsksMore-serve_once-clause-counted
returns-in-AsksMore-serve_once-clause-counted g c =
    served_counts (g.T.Talking.awaited, g.T.Talking.talk, g.L.Port.port) (λ guest. g.T.Talking.asks_for guest.talk)
    c.args.number c.args.due c.args.mux.now c.serve_once-2.new.mux c.args.ends.now c.serve_once-2.new.ends
    (served_on (g.T.Talking.awaited, g.T.Talking.talk, g.L.Port.port) (λ guest. g.T.Talking.asks_for guest.talk)
    c.args.number c.args.due c.args.mux.now c.loop.mux c.serve_once-2.new.mux
    c.loop.invariant.asked.0 c.loop.invariant.asked.1
    (once_served (g.T.Talking.awaited, g.T.Talking.talk, g.L.Port.port) (λ guest. g.T.Talking.asks_for guest.talk)
    c.args.number c.args.due c.loop.mux c.serve_once-2.new.mux c.in-AsksMore-serve_once.ensures.ends.0.0
    c.in-AsksMore-serve_once.ensures.ends.0.1.made))
    (c.in-AsksMore-serve_once.ensures.ends.1 ∙ c.loop.invariant.ends)

pub returns-in-AsksMore-serve_once-clause-acted : goal.returns-in-AsksMore-serve_once-clause-acted
returns-in-AsksMore-serve_once-clause-acted g c =
    acted_on (g.T.Talking.awaited, g.T.Talking.talk, g.L.Port.port)
    (c.args.mux.now.roster, c.args.ends.now) (c.loop.mux.roster, c.loop.ends)
    (c.serve_once-2.new.mux.roster, c.serve_once-2.new.ends) c.loop.invariant.acted c.serve_once-2.ensures.acted

pub returns-in-Later-serve_once-clause-ends : goal.returns-in-Later-serve_once-clause-ends
returns-in-Later-serve_once-clause-ends g c = record {
  rests = tt;
  served = served_on (g.T.Talking.awaited, g.T.Talking.talk, g.L.Port.port)
      (λ guest. g.T.Talking.asks_for guest.talk)
      c.args.number c.args.due c.args.mux.now c.loop.mux c.serve_once-2.new.mux
      c.loop.invariant.asked.0 c.loop.invariant.asked.1
      c.in-Later-serve_once.ensures.ends.0;
  none = c.in-Later-serve_once.ensures.ends.1 ∙ c.loop.invariant.ends;
}

pub returns-in-Later-serve_once-clause-counted : goal.returns-in-Later-serve_once-clause-counted
returns-in-Later-serve_once-clause-counted g c =
    served_counts (g.T.Talking.awaited, g.T.Talking.talk, g.L.Port.port) (λ guest. g.T.Talking.asks_for guest.talk)
    c.args.number c.args.due c.args.mux.now c.serve_once-2.new.mux c.args.ends.now c.serve_once-2.new.ends
    (served_on (g.T.Talking.awaited, g.T.Talking.talk, g.L.Port.port) (λ guest. g.T.Talking.asks_for guest.talk)
    c.args.number c.args.due c.args.mux.now c.loop.mux c.serve_once-2.new.mux
    c.loop.invariant.asked.0 c.loop.invariant.asked.1
    c.in-Later-serve_once.ensures.ends.0)
    (c.in-Later-serve_once.ensures.ends.1 ∙ c.loop.invariant.ends)

pub returns-in-Later-serve_once-clause-acted : goal.returns-in-Later-serve_once-clause-acted
returns-in-Later-serve_once-clause-acted g c =
    acted_on (g.T.Talking.awaited, g.T.Talking.talk, g.L.Port.port)
    (c.args.mux.now.roster, c.args.ends.now) (c.loop.mux.roster, c.loop.ends)
    (c.serve_once-2.new.mux.roster, c.serve_once-2.new.ends) c.loop.invariant.acted c.serve_once-2.ensures.acted

pub loop-preserved : goal.loop-preserved
loop-preserved g c = record {
  asked = (_, gains_push c.loop.invariant.asked.1 c.in-AsksMore.ensures.ends.0.1);
  ends = c.in-AsksMore.ensures.ends.1 ∙ c.loop.invariant.ends;
  others = λ other apart.
      c.serve_once.ensures.others other apart ∙ c.loop.invariant.others other apart;
  acted = acted_on (g.T.Talking.awaited, g.T.Talking.talk, g.L.Port.port)
      (c.args.mux.now.roster, c.args.ends.now) (c.loop.mux.roster, c.loop.ends)
      (c.serve_once.new.mux.roster, c.serve_once.new.ends) c.loop.invariant.acted
      c.serve_once.ensures.acted;
  order = c.serve_once.ensures.order;
}
