-- Settings with the limits of pools are in their ranges where the options are.
use Rattle.std.proofs.Common.{◌≡◌, ℕ, ◌≤◌, ◌<◌, List, [], ◌∷◌, length, map, Option, None, Some, arith, subst, sym}
use Rattle.std.proofs.lemmas.Bool.{le-leb}
use Rattle.std.proofs.lemmas.List.{length-map}
use Rattle.std.proofs.lemmas.List.Elements.{All-cons, All-head, All-nil, All-tail}
use Rattle.std.proofs.Math.Dec.{leb-zero}
use Rattle.std.specs.List.{All}
use Rattle.std.specs.Prelude.{IfSome, refl, unwrap_or}
use Rattle.tko_model.proofs.RangeLemmas.{are_within-all, has_groups-all}
use Rattle.tko_model.specs.Limits.{max_limit}
use Rattle.tko_model.specs.Ranges.{IsWithinRanges, first_fault, first_fault_in}
use Rattle.tko_model.specs.Settings.{Settings, in_one_group}
use Rattle.tko_model.specs.declared.layout.Layout.TheVariants as layout
use Rattle.tko_model.specs.declared.one_group.OneGroup.{OneGroup}
use Rattle.tko_pools.specs.Configs.{AreGroups, Configuration, limits_of}
use Rattle.tko_commands.specs.Grouped.{grouped}

-- the limits of the pools, and that of the options for the others
limits_small : (default : ℕ) (limits : List (Option ℕ)) → default ≤ max_limit
    → All (λ limit. IfSome limit (λ n. n ≤ max_limit)) limits
    → All (λ n. n ≤ max_limit) (map (λ limit. unwrap_or limit default) limits)
limits_small default [] small all = All-nil (λ n. n ≤ max_limit)
limits_small default (None ∷ others) small all =
    let rest = All-tail (λ limit. IfSome limit (λ n. n ≤ max_limit)) None others all in
    All-cons (λ n. n ≤ max_limit) default _ small (limits_small default others small rest)
limits_small default (Some n ∷ others) small all =
    let P : Option ℕ → Type 0 = λ limit. IfSome limit (λ n. n ≤ max_limit) in
    let first : n ≤ max_limit = All-head P (Some n) others all in
    let rest = All-tail P (Some n) others all in
    All-cons (λ n. n ≤ max_limit) n _ first (limits_small default others small rest)

within_groups : (config : Configuration) (options : OneGroup) → options.servers ≡ length config.addresses
    → AreGroups config → IsWithinRanges (in_one_group options) → IsWithinRanges (grouped config options)
within_groups config options servers groups within =
    let count : length (limits_of config options.limit) ≡ length config.soft_limits = length-map config.soft_limits _ in
    let limit : options.limit ≤ max_limit =
    All-head (λ n. n ≤ max_limit) options.limit [] within.limits in
    record {
      servers = within.servers;
      threads = within.threads;
      failures = within.failures;
      limits = limits_small options.limit config.soft_limits limit groups.small;
      tries = within.tries;
      stamp = within.stamp;
      groups = (omega (arith, count, groups.some), omega (arith, count, groups.few));
      grouped = cc (groups.one_each, servers);
      in_groups = subst (λ n. All (λ group. group < n) config.groups) (sym count) groups.within;
    }

pub set_within : (settings : Settings) (config : Configuration) (options : OneGroup)
    → settings ≡ grouped config options → options.servers ≡ length config.addresses → AreGroups config
    → IsWithinRanges (in_one_group options) → IsWithinRanges settings
set_within settings config options same servers groups within =
    subst IsWithinRanges (sym same) (within_groups config options servers groups within)

-- settings in their ranges have no fault
pub no_fault : (s : Settings) → IsWithinRanges s → first_fault s ≡ None
unfolding first_fault_in
no_fault s within =
    rw (
      le-leb 1 _ within.servers.0,
      le-leb _ _ within.servers.1,
      le-leb 1 _ within.threads.0,
      le-leb _ _ within.threads.1,
      le-leb 1 _ within.failures.0,
      le-leb _ _ within.failures.1,
      are_within-all _ s.limits within.limits,
      le-leb 1 _ within.tries.0,
      le-leb _ _ within.tries.1,
      leb-zero s.opening_stamp,
      le-leb _ _ within.stamp,
      has_groups-all layout.Two s within,
    ) refl
