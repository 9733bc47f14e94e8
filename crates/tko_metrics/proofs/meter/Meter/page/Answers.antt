use Rattle.std.proofs.Common.{◌∙◌, ap, length, option_map, subst}
use Rattle.std.proofs.lemmas.Result.{IfOk-weaker}
use Rattle.tko_metrics.specs.Loads.{AreWorkersIf}
use Rattle.tko_metrics.specs.Meters.{parts_of}
use Rattle.tko_metrics.proofs.LoadLemmas.{parts_shown}
use Rattle.tko_metrics.proofs.meter.Meter.page.Goals as goal

pub returns : goal.returns
returns c =
    let parts = ap (λ shared. length shared.now.workers.items) c.unwrap_or-shared.ensures
    ∙ parts_shown c.shared.result _ (ap (λ workers. workers.items) c.of-nothing.ensures ∙ c.new.ensures.items)
    ∙ ap parts_of c.shared.ensures in
    IfOk-weaker c.text.result _ _
    (λ text is. record {
      page = c.in_ok-reading.field-0;
      of_build = c.in_ok-reading.ensures.build;
      servers = c.in_ok-reading.ensures.servers;
      timed = c.in_ok-reading.ensures.timed;
      refusals = c.in_ok-reading.ensures.refusals;
      commands = c.in_ok-reading.ensures.commands;
      workers = subst (λ count. AreWorkersIf count
          (option_map (λ workers. workers.items) c.in_ok-reading.field-0.workers)) parts
          c.in_ok-reading.ensures.workers;
      text_is = is;
    })
    c.text.ensures
