use Rattle.std.proofs.Common.{◌≡◌, ◌∙◌, ap, arith, length, map, rules, string_bytes, sym}
use Rattle.std.proofs.lemmas.List.{length-map, take_all}
use Rattle.tko_pools.specs.Configs.{numbers_below, servers_at}
use Rattle.tko_server.proofs.RoutePoolLemmas.{names_next, servers_next}
use Rattle.tko_server.proofs.route_pools.route_pools.Goals as goal

pub loop-place-preserved : goal.loop-place-preserved
loop-place-preserved c =
    let named : string_bytes c.in_ok-name.name ≡ string_bytes c.index-names-place.result = search rules in
    let served : c.in_ok-servers.servers.items ≡ servers_at c.args.config.now c.loop-place.place = search rules in (
      names_next string_bytes c.names-names.result.now c.loop-place.place c.index-names-place.result _ _ _ c.loop-place-test.true c.index-names-place.is c.loop-place.invariant.0 named c.in_ok-push.ensures.items,
      servers_next c.args.config.now _ _ _ _ c.loop-place.invariant.1 served c.in_ok-push.ensures.items,
    )

pub returns : goal.returns
returns c =
    let names = c.names-names.result.now in
    let all : c.loop-place.place ≡ length names = omega (arith, c.loop-place-test.false, c.loop-place.auto.place-end) in
    let count : length c.args.config.now.names ≡ length names =
    ap length (sym c.names-names.ensures.value) ∙ length-map names string_bytes in
    record {
      names = c.loop-place.invariant.0 ∙ ap (map string_bytes) (take_all c.loop-place.place names c.loop-place-test.false) ∙ c.names-names.ensures.value;
      servers = c.loop-place.invariant.1 ∙ ap (λ n. map (servers_at c.args.config.now) (numbers_below n)) (all ∙ sym count);
    }
