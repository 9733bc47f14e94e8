use Rattle.tko_event_threads.proofs.host.EventHostHostLentAccountedEventClient.greet.Goals as goal

pub returns-clause-ready : goal.returns-clause-ready
returns-clause-ready g c = c.make_client.ensures.ready c.args.lent.now.parts.config
