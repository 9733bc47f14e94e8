use Rattle.std.proofs.Common.{◌≡◌, ◌∙◌, ◌<◌, length, map, rules, string_bytes, subst, sym}
use Rattle.std.proofs.lemmas.List.{length-map}
use Rattle.std.proofs.lemmas.Result.{IfOk-weaker}
use Rattle.std.specs.Prelude.{vec_len}
use Rattle.tko_reach.proofs.ReachLemmas.{all_reached}
use Rattle.tko_reach.proofs.reaching.ask_all.Goals as goal

pub returns : goal.returns
returns g c =
    let asked = c.in_ok-asked.asked in
    let addresses = map string_bytes c.args.addresses.now in
    let same : vec_len asked ≡ length asked.items = search rules in
    let size = length-map c.args.addresses.now string_bytes in
    IfOk-weaker c.all_asked.result _ _
    (λ servers whole. all_reached c.args.time_limit_ms addresses asked.items servers.items whole
    (sym same ∙ c.in_ok-asked.ensures.len ∙ sym size)
    (λ number d below. (c.in_ok-asked.ensures.each number d
    (subst (λ n. number < n) size below)).1.met))
    c.all_asked.ensures
