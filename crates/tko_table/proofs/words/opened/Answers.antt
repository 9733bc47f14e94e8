use Rattle.std.proofs.Common.{◌≡◌, ap, rules}
use Rattle.tko_model.specs.Settings.{Settings}
use Rattle.tko_model.proofs.GroupLemmas.{groups-le}
use Rattle.tko_table.proofs.OpenLemmas.{words-opened, words-resized}
use Rattle.tko_table.proofs.words.opened.Goals as goal

pub count_words-requires : goal.count_words-requires
count_words-requires c = groups-le c.args.settings.now c.requires

pub returns-clause-opened : goal.returns-clause-opened
returns-clause-opened c =
    let s = c.args.settings.now in
    let stamp : c.settings.inside.opening_stamp ≡ s.opening_stamp = ap (λ (it : Settings). it.opening_stamp) c.settings.view_is in
    words-opened s _ c.pack-server.result c.pack_soft.result
    (words-resized s _ _ _ _ c.pack-server.result c.pack_soft.result c.in_ok-resize.ensures.items (search rules) (search rules) c.count_words.ensures)
    c.pack-server.ensures.valid (rw stamp at c.pack-server.ensures.back) c.pack_soft.ensures.firm c.pack_soft.ensures.held
