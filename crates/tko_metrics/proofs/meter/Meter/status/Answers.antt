use Rattle.std.proofs.Common.{◌∙◌, ap, length, map, string_bytes, subst, IfOk}
use Rattle.tko_metrics.specs.Meters.{parts_of}
use Rattle.tko_metrics.specs.Statuses.{IsStatusOf}
use Rattle.tko_metrics.proofs.LoadLemmas.{parts_shown}
use Rattle.tko_metrics.proofs.meter.Meter.status.Goals as goal

pub returns : goal.returns
returns c =
    let parts = ap (λ shared. length shared.now.workers.items) c.unwrap_or-shared.ensures
    ∙ parts_shown c.shared.result _ (ap (λ workers. workers.items) c.of-nothing.ensures ∙ c.new.ensures.items)
    ∙ ap parts_of c.shared.ensures in
    subst (λ count. IfOk c.status.result (IsStatusOf (map string_bytes c.args.addresses.now) count)) parts
    c.status.ensures
