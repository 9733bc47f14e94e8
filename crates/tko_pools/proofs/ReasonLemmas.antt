-- What is wrong with a pool, by whether it has servers and by its soft limit.
use Rattle.std.proofs.Common.{◌≡◌, ℕ, true, false, List, length, refl, sym, ap, ◌∙◌}
use Rattle.std.specs.Prelude.{◌==◌, Some, None, option_map}
use Rattle.serde_json.specs.Data.{Data}
use Rattle.tko_pools.specs.Json.{pool_of, servers_of}
use Rattle.tko_pools.specs.Reasons.{EmptyPool, BadAddress, BadKey, BadSoftLimit, bad_address, pool_reason}
use Rattle.tko_pools.specs.PlacementFlaws.{placement_flaw}
use Rattle.tko_pools.specs.SoftLimits.{is_no_limit, limit_value}

-- a pool without servers
pub pool_reason-empty : (name : List ℕ) (value : Data) (n : ℕ) → true ≡ (n == 0)
    → n ≡ length (servers_of value) → Some (EmptyPool name) ≡ pool_reason (pool_of name value)
pool_reason-empty name value n test same =
    let empty : (length (servers_of value) == 0) ≡ true = sym (test ∙ ap (λ m. m == 0) same) in
    rw empty refl

-- one with servers of which one is no address
pub pool_reason-address : (name : List ℕ) (value : Data) (n : ℕ) (text : List ℕ) → false ≡ (n == 0)
    → n ≡ length (servers_of value) → bad_address (servers_of value) ≡ Some text
    → Some (BadAddress text) ≡ pool_reason (pool_of name value)
pool_reason-address name value n text test same bad =
    let some : (length (servers_of value) == 0) ≡ false = sym (test ∙ ap (λ m. m == 0) same) in
    rw (some, bad) refl

-- one with servers that are addresses, by its soft limit
pub pool_reason-limit : (name : List ℕ) (value : Data) (n : ℕ) → false ≡ (n == 0)
    → n ≡ length (servers_of value) → bad_address (servers_of value) ≡ None
    → is_no_limit (limit_value value) ≡ true → Some (BadSoftLimit name) ≡ pool_reason (pool_of name value)
pool_reason-limit name value n test same good bad =
    let some : (length (servers_of value) == 0) ≡ false = sym (test ∙ ap (λ m. m == 0) same) in
    rw (some, good, bad) refl

-- one whose servers and soft limit are right, by how it spreads keys
pub pool_reason-keys : (name : List ℕ) (value : Data) (n : ℕ) → false ≡ (n == 0)
    → n ≡ length (servers_of value) → bad_address (servers_of value) ≡ None
    → is_no_limit (limit_value value) ≡ false
    → pool_reason (pool_of name value) ≡ option_map (λ key. BadKey key name) (placement_flaw value)
pool_reason-keys name value n test same good limit =
    let some : (length (servers_of value) == 0) ≡ false = sym (test ∙ ap (λ m. m == 0) same) in
    rw (some, good, limit) refl
