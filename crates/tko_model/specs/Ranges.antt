-- The ranges of the settings.
use Rattle.std.specs.Prelude.{ℕ, ◌-◌, ◌≡◌, ◌<◌, ◌≤◌, ◌==◌, Bool, ◌&&◌, nat_le, All, length, List, [], ◌∷◌, Option, Some, None, if◌then◌else◌}
use Rattle.std.specs.List.{list_all}
use Rattle.tko_model.specs.Limits.{max_failures, max_groups, max_limit, max_servers, max_threads, max_tries, worn}
use Rattle.tko_model.specs.Settings.{Settings}
use Rattle.tko_model.specs.declared.layout.Layout.{Layout}
use Rattle.tko_model.specs.declared.layout.Layout.TheVariants as layout
use Rattle.tko_model.specs.declared.settings.SettingsFault.{SettingsFault}
use Rattle.tko_model.specs.declared.settings.SettingsFault.TheVariants.{Servers, Threads, Failures, Limit, Tries, Stamp, Groups}

-- whether a number lies in a range, both ends included
abbrev pub is_within : ℕ → ℕ → ℕ → Bool
is_within low high n = nat_le low n && nat_le n high

-- whether each of these numbers is at most as high as this one
abbrev pub are_within : ℕ → List ℕ → Bool
are_within high numbers = list_all (λ n. nat_le n high) numbers

-- whether there are groups, each server has one, and each of these is one of them
abbrev pub has_groups : Settings → Bool
has_groups s =
    is_within 1 max_groups (length s.limits)
    && (length s.group_of == s.servers && are_within (length s.limits - 1) s.group_of)

-- each range with its fault, in the order in which they are checked
abbrev pub ranges_in : Layout → Settings → List (Bool × SettingsFault)
ranges_in layout s =
    (is_within 1 max_servers s.servers, Servers)
    ∷ (is_within 1 (max_threads layout) s.threads, Threads)
    ∷ (is_within 1 (max_failures layout) s.failures, Failures)
    ∷ (are_within max_limit s.limits, Limit)
    ∷ (is_within 1 max_tries s.tries, Tries)
    ∷ (is_within 0 worn s.opening_stamp, Stamp)
    ∷ (has_groups s, Groups)
    ∷ []

-- the fault of the first range that does not hold
abbrev pub first_broken : List (Bool × SettingsFault) → Option SettingsFault
first_broken [] = None
first_broken (range ∷ others) = if range.0 then first_broken others else Some range.1

unfoldable pub first_fault_in : Layout → Settings → Option SettingsFault
first_fault_in layout s = first_broken (ranges_in layout s)

abbrev pub first_fault : Settings → Option SettingsFault
first_fault s = first_fault_in layout.Two s

-- every setting is in its range under this layout
pub record IsWithin (layout : Layout) (s : Settings) : Type 0 where
  pub servers : (1 ≤ s.servers) × (s.servers ≤ max_servers)
  pub threads : (1 ≤ s.threads) × (s.threads ≤ max_threads layout)
  pub failures : (1 ≤ s.failures) × (s.failures ≤ max_failures layout)
  pub limits : All (λ limit. limit ≤ max_limit) s.limits
  pub tries : (1 ≤ s.tries) × (s.tries ≤ max_tries)
  pub stamp : s.opening_stamp ≤ worn
  pub groups : (1 ≤ length s.limits) × (length s.limits ≤ max_groups)
  pub grouped : length s.group_of ≡ s.servers
  pub in_groups : All (λ group. group < length s.limits) s.group_of

abbrev pub IsWithinRanges : Settings → Type 0
IsWithinRanges s = IsWithin layout.Two s
