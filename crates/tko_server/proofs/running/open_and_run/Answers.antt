use Rattle.std.proofs.Common.{refl, rules}
use Rattle.tko_server.proofs.RunLemmas.{done_well, failed_later, passed_on}
use Rattle.tko_server.proofs.running.open_and_run.Goals as goal

pub returns-in-Err : goal.returns-in-Err
returns-in-Err g c = record {
  settings = passed_on _ _ _ _ c.in-Err.is refl c.opened.ensures.settings;
  ended = tt;
  announced = search rules;
}

pub returns-in-Ok-ended : goal.returns-in-Ok-ended
returns-in-Ok-ended g c = record {
  settings = done_well _ _ _ _ _ c.in-Ok.is refl c.opened.ensures.settings;
  ended = search rules;
  announced = search rules;
}

pub returns-in-Err-ended : goal.returns-in-Err-ended
returns-in-Err-ended g c =
    let failed = rw c.in-Err-ended.is at c.run_with-announcement.ensures.failed in record {
      settings = failed_later _ _ _ _ c.in-Err-ended.failed.fault c.in-Ok.is refl failed.fault c.opened.ensures.settings;
      ended = tt;
      announced = search rules;
    }
