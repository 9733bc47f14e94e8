use Rattle.std.proofs.Common.{◌≡◌, ap, rules}
use Rattle.tko_model.specs.Settings.{Settings}
use Rattle.tko_steps.proofs.WordsLemmas.{opened_is}
use Rattle.tko_steps.proofs.words.CoreWords.open.Goals as goal

pub returns : goal.returns
returns c =
    let stamp : c.settings.inside.opening_stamp ≡ c.args.settings.now.opening_stamp =
    ap (λ (s : Settings). s.opening_stamp) c.settings.view_is in
    opened_is c.args.settings.now c.pack-server.result c.pack_soft.result c.in_ok-health.health.items c.in_ok-soft.soft.items (search rules) (search rules)
    (rw stamp at c.pack-server.ensures.back) c.pack_soft.ensures.firm c.pack_soft.ensures.held
