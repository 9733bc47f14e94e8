use Rattle.std.proofs.Common.{◌≡◌, ◌∙◌, Some, None, ap, length, subst, sym}
use Rattle.std.specs.Prelude.{IfErr, IfOk, option_map}
use Rattle.serde_json.specs.View.{view}
use Rattle.tko_pools.specs.Json.{pool_of, servers_of}
use Rattle.tko_pools.specs.PlacementFlaws.{placement_flaw}
use Rattle.tko_pools.specs.Reasons.{BadKey, BadSoftLimit, EmptyPool, Reports, bad_address, pool_reason}
use Rattle.tko_pools.proofs.JsonLemmas.{length_texts}
use Rattle.tko_pools.proofs.ReasonLemmas.{pool_reason-empty, pool_reason-keys, pool_reason-limit}
use Rattle.tko_pools.proofs.flaws.check_pool.Goals.{After-check_keys}
use Rattle.tko_pools.proofs.flaws.check_pool.Goals as goal

pub returns-then-is_empty-clause-err : goal.returns-then-is_empty-clause-err
returns-then-is_empty-clause-err c =
    let same = sym (length_texts c.servers_of-servers.result.now) ∙ ap length c.servers_of-servers.ensures in
    sym (pool_reason-empty c.args.name.now (view c.args.value.now) _ (sym c.if-is_empty.true ∙ c.is_empty.ensures) same)
    ∙ ap (λ name. Some (EmptyPool name)) (sym c.in_ok-from_str.ensures.ok)

pub returns-then-has_no_limit-clause-err : goal.returns-then-has_no_limit-clause-err
returns-then-has_no_limit-clause-err c =
    let value = view c.args.value.now in
    let same = sym (length_texts c.servers_of-servers.result.now) ∙ ap length c.servers_of-servers.ensures in
    let good : bad_address (servers_of value) ≡ None =
    ap bad_address (sym c.servers_of-servers.ensures) ∙ sym c.bad_address.ensures
    ∙ ap (option_map (λ text. text.now)) c.in_default.is in
    let limit = sym c.has_no_limit.ensures ∙ c.if-has_no_limit.true in
    sym (pool_reason-limit c.args.name.now value _ (sym c.if-is_empty.false ∙ c.is_empty.ensures) same good limit)
    ∙ ap (λ name. Some (BadSoftLimit name)) (sym c.in_ok-from_str-3.ensures.ok)

keyed : (c : After-check_keys) → pool_reason (pool_of c.args.name.now (view c.args.value.now))
    ≡ option_map (λ key. BadKey key c.args.name.now) (placement_flaw (view c.args.value.now))
keyed c =
    let value = view c.args.value.now in
    let same = sym (length_texts c.servers_of-servers.result.now) ∙ ap length c.servers_of-servers.ensures in
    let good : bad_address (servers_of value) ≡ None =
    ap bad_address (sym c.servers_of-servers.ensures) ∙ sym c.bad_address.ensures
    ∙ ap (option_map (λ text. text.now)) c.in_default.is in
    let limit = sym c.has_no_limit.ensures ∙ c.if-has_no_limit.false in
    pool_reason-keys c.args.name.now value _ (sym c.if-is_empty.false ∙ c.is_empty.ensures) same good limit

pub returns-clause-ok : goal.returns-clause-ok
returns-clause-ok c =
    subst (λ found. IfOk c.check_keys.result (λ _. found ≡ None)) (sym (keyed c)) c.check_keys.ensures.ok

pub returns-clause-err : goal.returns-clause-err
returns-clause-err c =
    subst (λ found. IfErr c.check_keys.result (λ fault. Reports found fault)) (sym (keyed c)) c.check_keys.ensures.err
