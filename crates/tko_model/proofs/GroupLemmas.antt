-- The groups of settings that are in range, and the soft marks of a group.
use Rattle.std.proofs.Common.{◌≡◌, ℕ, zero, suc, ◌+◌, ◌<◌, ◌≤◌, cond, List, [], ◌∷◌, length, get_or, set, drop, replicate, refl, ap, subst, arith}
use Rattle.std.specs.List.{All}
use Rattle.std.proofs.lemmas.List.{drop_more}
use Rattle.tko_model.specs.declared.mark.Mark.TheVariants.{Up}
use Rattle.tko_model.specs.Settings.{Settings}
use Rattle.tko_model.specs.declared.state.ServerState.{ServerState}
use Rattle.tko_model.specs.Groups.{group_of, groups, limit_of}
use Rattle.tko_model.specs.Ranges.{IsWithinRanges}
use Rattle.tko_model.specs.Tracker.{is_soft_in, softs_from, softs_in}

-- ---- what the groups of settings in range are

-- what holds of 0 and of each number of a list holds of what is read there
at_or_zero : (P : ℕ → Type 0) (ns : List ℕ) (i : ℕ) → P 0 → All P ns → P (get_or ns i 0)
at_or_zero P [] i z all = z
at_or_zero P (n ∷ ns) zero z all = all 0 0 (omega arith)
at_or_zero P (n ∷ ns) (suc i) z all =
    at_or_zero P ns i z (λ k d inside. all (suc k) d (omega (arith, inside)))

pub group_of-lt : (s : Settings) (server : ℕ) → IsWithinRanges s → group_of s server < groups s
unfolding group_of groups
group_of-lt s server ranges =
    at_or_zero (λ group. group < length s.limits) s.group_of server ranges.groups.0 ranges.in_groups

pub groups-le : (s : Settings) → IsWithinRanges s → groups s ≤ 256
unfolding groups
groups-le s ranges = ranges.groups.1

pub limit_of-le : (s : Settings) (group : ℕ) → IsWithinRanges s → limit_of s group ≤ 256
unfolding limit_of
limit_of-le s group ranges = at_or_zero (λ limit. limit ≤ 256) s.limits group (omega arith) ranges.limits

-- ---- the soft marks of a group

abbrev none : ServerState
none = record { mark = Up 0; stamp = 0 }

-- what this server counts among the soft marks of a group
abbrev pub soft_bit : Settings → ℕ → ℕ → ServerState → ℕ
soft_bit s group server it = cond (is_soft_in s group server it.mark) 1 0

softs_from-set : (s : Settings) (group first : ℕ) (servers : List ServerState) (i : ℕ) (new : ServerState) → i < length servers
    → softs_from s group first (set servers i new) + soft_bit s group (first + i) (get_or servers i none)
    ≡ softs_from s group first servers + soft_bit s group (first + i) new
softs_from-set s group first [] i new inside = absurd (omega (arith, inside))
softs_from-set s group first (it ∷ servers) zero new inside =
    let P : ℕ → Type 0 = λ at. soft_bit s group first new + softs_from s group (first + 1) servers + soft_bit s group at it
    ≡ soft_bit s group first it + softs_from s group (first + 1) servers + soft_bit s group at new in
    let same : first ≡ first + 0 = omega arith in
    subst P same (omega arith)
softs_from-set s group first (it ∷ servers) (suc i) new inside =
    let rest = softs_from-set s group (first + 1) servers i new (omega (arith, inside)) in
    let same : first + 1 + i ≡ first + suc i = omega arith in
    let P : ℕ → Type 0 = λ at. softs_from s group (first + 1) (set servers i new) + soft_bit s group at (get_or servers i none)
    ≡ softs_from s group (first + 1) servers + soft_bit s group at new in
    omega (arith, subst P same rest)

-- a change of one server changes what it counts itself
pub softs_in-set : (s : Settings) (group : ℕ) (servers : List ServerState) (i : ℕ) (new : ServerState) → i < length servers
    → softs_in s group (set servers i new) + soft_bit s group i (get_or servers i none)
    ≡ softs_in s group servers + soft_bit s group i new
softs_in-set s group servers i new inside =
    let P : ℕ → Type 0 = λ at. softs_in s group (set servers i new) + soft_bit s group at (get_or servers i none)
    ≡ softs_in s group servers + soft_bit s group at new in
    let same : 0 + i ≡ i = omega arith in
    subst P same (softs_from-set s group 0 servers i new inside)

softs_from-replicate : (s : Settings) (group first n stamp : ℕ)
    → softs_from s group first (replicate n (record { mark = Up 0; stamp = stamp })) ≡ 0
softs_from-replicate s group first zero stamp = refl
softs_from-replicate s group first (suc n) stamp =
    omega (arith, softs_from-replicate s group (first + 1) n stamp)

-- servers as they open have no soft mark
pub softs_in-replicate : (s : Settings) (group n stamp : ℕ)
    → softs_in s group (replicate n (record { mark = Up 0; stamp = stamp })) ≡ 0
softs_in-replicate s group n stamp = softs_from-replicate s group 0 n stamp

-- the servers from this one on
pub softs_from_drop : (s : Settings) (group i : ℕ) (servers : List ServerState) (d : ServerState) → i < length servers
    → softs_from s group i (drop i servers)
    ≡ soft_bit s group i (get_or servers i d) + softs_from s group (i + 1) (drop (i + 1) servers)
softs_from_drop s group i servers d inside = ap (softs_from s group i) (drop_more servers i d inside)
