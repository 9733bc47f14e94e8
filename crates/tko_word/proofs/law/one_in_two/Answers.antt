use Rattle.std.proofs.Common.{ap, sym, ◌∙◌}
use Rattle.tko_model.specs.declared.layout.Layout.TheVariants as layout
use Rattle.tko_model.specs.declared.state.ServerState.{ServerState}
use Rattle.tko_model.proofs.RangeLemmas.{within_two}
use Rattle.tko_word.proofs.WordLemmas.{IsMark-in, server_in_is}
use Rattle.tko_word.proofs.law.one_in_two.Goals as goal

pub returns-clause-settings : goal.returns-clause-settings
returns-clause-settings c = within_two layout.One

pub returns-clause-words : goal.returns-clause-words
returns-clause-words c = λ s word ranges is. record {
  mark = is.mark;
  stamp = is.stamp;
  allowed = is.allowed;
  fits = IsMark-in layout.One is.mark is.fits;
  below = is.below;
  is = is.is;
}

pub returns-clause-reading : goal.returns-clause-reading
returns-clause-reading c = λ s word first second.
    let one = server_in_is word first.mark first.stamp (IsMark-in layout.One first.mark first.fits) first.is in
    let two = server_in_is word second.mark second.stamp second.fits second.is in
    let same = sym one ∙ two in
    (ap (λ (server : ServerState). server.mark) same, ap (λ (server : ServerState). server.stamp) same)
