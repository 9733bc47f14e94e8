use Rattle.tko_cli.proofs.planned.named_server.Goals as goal

pub returns-clause-ok : goal.returns-clause-ok
returns-clause-ok g c = record {
  plan = c.in_ok-plan.plan;
  planned = c.in_ok-plan.ensures.ok;
  open_files = c.open_file_limit.result;
  of_plan = c.server.ensures;
}
