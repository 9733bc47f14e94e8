use Rattle.tko_commands.proofs.refusing.refuse_metrics.Goals as goal

pub returns-clause-fault : goal.returns-clause-fault
returns-clause-fault g c = record {
  middle = c.write_address_reason.new.faults;
  reason = c.write_address_reason.ensures;
  line = c.fail.ensures.fault;
}
