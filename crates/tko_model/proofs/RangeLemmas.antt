-- The ranges of lists of numbers, as tests.
use Rattle.std.proofs.Common.{◌≡◌, ℕ, suc, ◌-◌, ◌≤◌, true, List, [], ◌∷◌, length, refl, arith}
use Rattle.std.proofs.lemmas.Bool.{eq-eqb, le-leb}
use Rattle.std.specs.List.{All}
use Rattle.tko_model.specs.Ranges.{IsWithin, IsWithinRanges, are_within, has_groups}
use Rattle.tko_model.specs.Settings.{Settings}
use Rattle.tko_model.specs.declared.layout.Layout.{Layout}
use Rattle.tko_model.specs.declared.layout.Layout.TheVariants as layout

pub are_within-all : (high : ℕ) (ns : List ℕ) → All (λ n. n ≤ high) ns → are_within high ns ≡ true
are_within-all high [] all = refl
are_within-all high (n ∷ ns) all =
    let others = are_within-all high ns (λ k d inside. all (suc k) d (omega (arith, inside))) in
    cc (le-leb n high (all 0 0 (omega arith)), others)

pub has_groups-all : (layout : Layout) (s : Settings) → IsWithin layout s → has_groups s ≡ true
has_groups-all layout s is =
    let groups = length s.limits in
    let grouped = are_within-all (groups - 1) s.group_of
    (λ k d inside. omega (arith, is.in_groups k d inside, is.groups)) in
    cc (le-leb 1 groups is.groups.0, le-leb groups 256 is.groups.1, eq-eqb _ _ is.grouped, grouped)

-- the ranges of the first layout lie in those of the second
pub within_two : (layout : Layout) (s : Settings) → IsWithin layout s → IsWithinRanges s
within_two layout.One s is =
    record {
      servers = is.servers;
      threads = (is.threads.0, omega (arith, is.threads.1));
      failures = (is.failures.0, omega (arith, is.failures.1));
      limits = is.limits;
      tries = is.tries;
      stamp = is.stamp;
      groups = is.groups;
      grouped = is.grouped;
      in_groups = is.in_groups;
    }
within_two layout.Two s is = is
