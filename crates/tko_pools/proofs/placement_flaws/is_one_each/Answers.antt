use Rattle.std.proofs.Common.{◌≡◌, ◌∙◌, ap, length, refl, sym}
use Rattle.serde_json.specs.View.{view}
use Rattle.tko_pools.specs.Json.{servers_of}
use Rattle.tko_pools.specs.PlacementFlaws.{listed_texts}
use Rattle.tko_pools.proofs.JsonLemmas.{length_texts}
use Rattle.tko_pools.proofs.placement_flaws.is_one_each.Goals as goal

pub returns : goal.returns
returns c =
    let one : length c.listed.result.now ≡ length (listed_texts (view c.args.value.now)) =
    sym (length_texts c.listed.result.now) ∙ ap length c.listed.ensures in
    let other : length c.servers_of.result.now ≡ length (servers_of (view c.args.pool.now)) =
    sym (length_texts c.servers_of.result.now) ∙ ap length c.servers_of.ensures in
    rw (one, other) refl
