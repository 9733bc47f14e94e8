use Rattle.std.proofs.Common.{◌≡◌, false, true, refl, rules}
use Rattle.tko_text.specs.declared.request.Request.TheVariants.{Get, Gets}
use Rattle.tko_reply.proofs.AskingLemmas.{split_parts}
use Rattle.tko_reply.proofs.requests.split_keys.Goals as goal

pub returns-in_ok-split_first-in-Get : goal.returns-in_ok-split_first-in-Get
returns-in_ok-split_first-in-Get c =
    let is : c.args.request.now ≡ Get c.in-Get.keys = search rules in
    split_parts false _ _ c.in-Get.keys c.split_first.new.self _ _ is refl
    c.in_ok-split_first-in-Get.ensures.parts c.in_ok-split_first-in-Get.ensures.one c.of.ensures

pub returns-in_ok-split_first-in-Gets : goal.returns-in_ok-split_first-in-Gets
returns-in_ok-split_first-in-Gets c =
    let is : c.args.request.now ≡ Gets c.in-Gets.keys = search rules in
    split_parts true _ _ c.in-Gets.keys c.split_first-in-Gets.new.self _ _ is refl
    c.in_ok-split_first-in-Gets.ensures.parts c.in_ok-split_first-in-Gets.ensures.one
    c.of-in-Gets.ensures
