use Rattle.std.proofs.Common.{rules, refl, inl, inr}
use Rattle.tko_worker.proofs.CountLemmas.{once_ends, once_served, served_counts}
use Rattle.tko_worker.proofs.RestLemmas.{served_rests}
use Rattle.tko_worker.proofs.ActedLemmas.{acted_on, dropped_acted, made_acted}
use Rattle.tko_mux.specs.declared.asking.Given.TheVariants.{Input}
use Rattle.tko_port.specs.declared.guest.ClientEvent.TheVariants.{Serve}
use Rattle.tko_worker.proofs.serving.serve_once.Goals as goal

pub returns-in-Rests-clause-ends : goal.returns-in-Rests-clause-ends
returns-in-Rests-clause-ends g c = (
  served_rests (g.T.Talking.awaited, g.T.Talking.talk, g.L.Port.port)
      (λ guest. g.T.Talking.asks_for guest.talk) c.args.mux.now c.act.new.self c.args.number
      c.args.due c.in-Some.done (search rules) (search rules) (inl c.in-Rests.is),
  served_counts (g.T.Talking.awaited, g.T.Talking.talk, g.L.Port.port) (λ guest. g.T.Talking.asks_for guest.talk)
      c.args.number c.args.due c.args.mux.now c.act.new.self c.args.ends.now c.args.ends.now
      (once_served (g.T.Talking.awaited, g.T.Talking.talk, g.L.Port.port) (λ guest. g.T.Talking.asks_for guest.talk)
      c.args.number c.args.due c.args.mux.now c.act.new.self c.in-Some.done (search rules)) refl,
)

pub returns-in-Asks-clause-ends : goal.returns-in-Asks-clause-ends
returns-in-Asks-clause-ends g c = (
  served_rests (g.T.Talking.awaited, g.T.Talking.talk, g.L.Port.port)
      (λ guest. g.T.Talking.asks_for guest.talk) c.args.mux.now c.act.new.self c.args.number
      c.args.due c.in-Some.done (search rules) (search rules) (inr c.in-Asks.is),
  served_counts (g.T.Talking.awaited, g.T.Talking.talk, g.L.Port.port) (λ guest. g.T.Talking.asks_for guest.talk)
      c.args.number c.args.due c.args.mux.now c.act.new.self c.args.ends.now c.args.ends.now
      (once_served (g.T.Talking.awaited, g.T.Talking.talk, g.L.Port.port) (λ guest. g.T.Talking.asks_for guest.talk)
      c.args.number c.args.due c.args.mux.now c.act.new.self c.in-Some.done (search rules)) refl,
)

pub returns-in-AsksMore-clause-ends : goal.returns-in-AsksMore-clause-ends
returns-in-AsksMore-clause-ends g c =
    ((c.in-Some.done, record { made = search rules; more = c.in-AsksMore.is }), refl)

pub returns-then-is_some-clause-ends : goal.returns-then-is_some-clause-ends
returns-then-is_some-clause-ends g c = (
  (once_served (g.T.Talking.awaited, g.T.Talking.talk, g.L.Port.port) (λ guest. g.T.Talking.asks_for guest.talk)
      c.args.number c.args.due c.args.mux.now c.act.new.self c.in-Some.done (search rules)),
  refl,
)

pub returns-in-Spent-clause-ends : goal.returns-in-Spent-clause-ends
returns-in-Spent-clause-ends g c = (
  (once_served (g.T.Talking.awaited, g.T.Talking.talk, g.L.Port.port) (λ guest. g.T.Talking.asks_for guest.talk)
      c.args.number c.args.due c.args.mux.now c.act.new.self c.in-Some.done (search rules)),
  refl,
)

pub returns-in-Ends-clause-ends : goal.returns-in-Ends-clause-ends
returns-in-Ends-clause-ends g c = (
  c.drop_client.ensures.rests,
  once_ends (g.T.Talking.awaited, g.T.Talking.talk, g.L.Port.port)
      (λ guest. g.T.Talking.asks_for guest.talk) c.args.mux.now c.act.new.self
      c.drop_client.new.mux c.args.ends.now c.drop_client.new.ends c.args.number c.args.due
      c.in-Some.done (search rules) c.in-Ends.why c.in-Ends.is c.drop_client.ensures.ends,
)

pub returns-then-is_some-clause-acted : goal.returns-then-is_some-clause-acted
returns-then-is_some-clause-acted g c =
    made_acted (g.T.Talking.awaited, g.T.Talking.talk, g.L.Port.port)
    (λ guest. g.T.Talking.asks_for guest.talk) c.args.mux.now c.act.new.self c.args.ends.now
    c.args.number c.args.due (Input Serve) c.in-Some.done (search rules)

pub returns-in-Rests-clause-acted : goal.returns-in-Rests-clause-acted
returns-in-Rests-clause-acted g c =
    made_acted (g.T.Talking.awaited, g.T.Talking.talk, g.L.Port.port)
    (λ guest. g.T.Talking.asks_for guest.talk) c.args.mux.now c.act.new.self c.args.ends.now
    c.args.number c.args.due (Input Serve) c.in-Some.done (search rules)

pub returns-in-Asks-clause-acted : goal.returns-in-Asks-clause-acted
returns-in-Asks-clause-acted g c =
    made_acted (g.T.Talking.awaited, g.T.Talking.talk, g.L.Port.port)
    (λ guest. g.T.Talking.asks_for guest.talk) c.args.mux.now c.act.new.self c.args.ends.now
    c.args.number c.args.due (Input Serve) c.in-Some.done (search rules)

pub returns-in-AsksMore-clause-acted : goal.returns-in-AsksMore-clause-acted
returns-in-AsksMore-clause-acted g c =
    made_acted (g.T.Talking.awaited, g.T.Talking.talk, g.L.Port.port)
    (λ guest. g.T.Talking.asks_for guest.talk) c.args.mux.now c.act.new.self c.args.ends.now
    c.args.number c.args.due (Input Serve) c.in-Some.done (search rules)

pub returns-in-Spent-clause-acted : goal.returns-in-Spent-clause-acted
returns-in-Spent-clause-acted g c =
    made_acted (g.T.Talking.awaited, g.T.Talking.talk, g.L.Port.port)
    (λ guest. g.T.Talking.asks_for guest.talk) c.args.mux.now c.act.new.self c.args.ends.now
    c.args.number c.args.due (Input Serve) c.in-Some.done (search rules)

pub returns-in-Ends-clause-acted : goal.returns-in-Ends-clause-acted
returns-in-Ends-clause-acted g c =
    acted_on (g.T.Talking.awaited, g.T.Talking.talk, g.L.Port.port)
    (c.args.mux.now.roster, c.args.ends.now) (c.act.new.self.roster, c.args.ends.now)
    (c.drop_client.new.mux.roster, c.drop_client.new.ends)
    (made_acted (g.T.Talking.awaited, g.T.Talking.talk, g.L.Port.port)
    (λ guest. g.T.Talking.asks_for guest.talk) c.args.mux.now c.act.new.self c.args.ends.now
    c.args.number c.args.due (Input Serve) c.in-Some.done (search rules))
    (dropped_acted (g.T.Talking.awaited, g.T.Talking.talk, g.L.Port.port) c.in-Ends.why
    (c.act.new.self, c.args.ends.now) (c.drop_client.new.mux, c.drop_client.new.ends)
    c.args.number c.drop_client.ensures.ends)
