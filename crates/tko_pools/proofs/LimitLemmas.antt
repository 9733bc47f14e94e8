-- No pool's own soft limit is above the greatest one.
use Rattle.std.proofs.Common.{◌≡◌, ◌≤◌, ℕ, Bool, true, false, cond, List, [], ◌∷◌, refl}
use Rattle.std.specs.Prelude.{Option, Some, None, IfSome, get_or, nat_le, option_and_then}
use Rattle.std.specs.List.{All}
use Rattle.std.proofs.lemmas.Bool.{leb-true}
use Rattle.std.proofs.lemmas.List.Elements.{All-nil, All-cons}
use Rattle.serde_json.specs.Data.{Data}
use Rattle.serde_json.specs.Find.{as_number, as_u64, get}
use Rattle.tko_pools.specs.Configs.{soft_limits_at}
use Rattle.tko_model.specs.Limits.{max_limit}
use Rattle.tko_pools.specs.SoftLimits.{limit_below, limit_value, soft_limit_named, soft_limit_of}

-- a soft limit, where there is one, is not above the greatest
abbrev pub IsSmall : Option ℕ → Type 0
IsSmall limit = IfSome limit (λ n. n ≤ max_limit)

tested-small : (n : ℕ) (test : Bool) → nat_le n max_limit ≡ test → IsSmall (cond test (Some n) None)
tested-small n true is = leb-true n max_limit is
tested-small n false is = tt

then-small : {T : Type 0} (f : T → Option ℕ) (found : Option T) → ((x : T) → IsSmall (f x))
    → IsSmall (option_and_then f found)
then-small f None each = tt
then-small f (Some x) each = each x

of-small : (value : Data) → IsSmall (soft_limit_of value)
of-small value =
    then-small limit_below (option_and_then as_u64 (as_number value)) (λ n. tested-small n (nat_le n max_limit) refl)

named-small : (pools : Data) (name : List ℕ) → IsSmall (soft_limit_named pools name)
named-small pools name =
    then-small soft_limit_of (option_and_then limit_value (get name pools)) of-small

pub limits-small : (pools : Data) (names : List (List ℕ)) (places : List ℕ)
    → All IsSmall (soft_limits_at pools names places)
limits-small pools names [] = All-nil IsSmall
limits-small pools names (place ∷ places) =
    All-cons
    IsSmall
    (soft_limit_named pools (get_or names place []))
    (soft_limits_at pools names places)
    (named-small pools (get_or names place []))
    (limits-small pools names places)
