use Rattle.std.proofs.Common.{◌<◌, ◌^◌, rules, sym, ◌∙◌}
use Rattle.tko_prober.proofs.DelayLemmas.{doubled-min}
use Rattle.tko_prober.proofs.delays.Delays.after.Goals as goal

pub returns-then-results-ge-MOST_DOUBLINGS : goal.returns-then-results-ge-MOST_DOUBLINGS
returns-then-results-ge-MOST_DOUBLINGS c =
    let fits : c.args.self.now.greatest < 2 ^ 32 = search rules in
    c.from-greatest.ensures
    ∙ sym (doubled-min _ _ _ c.args.self.now.in_range.0 fits c.if-results-ge-MOST_DOUBLINGS.true)
