use Rattle.std.proofs.Common.{◌≡◌, ◌+◌, drop, length, rules, slice_range, sym, ◌∙◌}
use Rattle.std.proofs.lemmas.Bool.Decides.{Decides-eqb}
use Rattle.std.proofs.lemmas.Slice.Eq.{strip_prefix_is}
use Rattle.tko_text.proofs.PartLemmas.{around, begins}
use Rattle.tko_text.proofs.response.data.Part.text_from.Goals as goal

pub returns : goal.returns
returns c =
    let part = c.args.self.now in
    let back = c.args.back.now in
    let end = part.begin + part.size in
    let behind = c.split_at.result.1.now in
    let after : behind ≡ drop end part.text = search rules in
    let found = begins behind back c.strip_prefix.result
    (strip_prefix_is Decides-eqb behind back _ c.strip_prefix.ensures.cases) (search rules) in
    let shared : c.in_ok-text.text ≡ slice_range part.text c.args.from (end + length back) =
    search rules in
    shared
    ∙ around part.text back found.0 part.begin part.size part.within (sym after ∙ found.1)
    c.args.from c.requires
