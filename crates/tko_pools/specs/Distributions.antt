-- How a pool spreads keys over its servers, and the words for it.
use Rattle.std.specs.Prelude.{ℕ, List, Bool, true, false, Option, Some, None, codes, bytes_eq, if◌then◌else◌}
use Rattle.tko_pools.specs.declared.distribution.Distribution.{Distribution}
use Rattle.tko_pools.specs.declared.distribution.Distribution.TheVariants as way
use Rattle.tko_ring.specs.declared.key_hash.KeyHash.{KeyHash}
use Rattle.tko_ring.specs.declared.kind.RingKind.{RingKind}
use Rattle.tko_ring.specs.declared.kind.RingKind.TheVariants as kind

-- the distribution that a word names
abbrev pub distribution_named : List ℕ → Option Distribution
distribution_named word =
    if bytes_eq word (codes "modula") then Some way.Modula
    else if bytes_eq word (codes "ketama") then Some way.Ketama
    else if bytes_eq word (codes "consistent") then Some way.Consistent
    else None

-- the word that names a distribution
abbrev pub distribution_word : Distribution → List ℕ
distribution_word way.Modula = codes "modula"
distribution_word way.Ketama = codes "ketama"
distribution_word way.Consistent = codes "consistent"

abbrev pub is_ring : Distribution → Bool
is_ring way.Modula = false
is_ring way.Ketama = true
is_ring way.Consistent = true

abbrev pub is_ketama : Distribution → Bool
is_ketama way.Modula = false
is_ketama way.Ketama = true
is_ketama way.Consistent = false

-- the kind of ring of a pool whose keys have this hash
abbrev pub ring_kind : Distribution → KeyHash → Option RingKind
ring_kind way.Modula hash = None
ring_kind way.Ketama hash = Some kind.Ketama
ring_kind way.Consistent hash = Some (kind.Consistent hash)
