-- The hash of some texts, computed: the values that the authors of FNV-1a publish.
use Rattle.std.proofs.Common.{◌≡◌, [], ◌∷◌, codes, refl}
use Rattle.tko_ring.specs.Hashing.{hash_of}
use Rattle.tko_ring.specs.declared.key_hash.KeyHash.TheVariants.{Fnv1a}

hashes_are_those_of_fnv1a : hash_of Fnv1a [] ∷ hash_of Fnv1a (codes "a") ∷ hash_of Fnv1a (codes "b")
    ∷ hash_of Fnv1a (codes "foobar") ∷ []
    ≡ 2166136261 ∷ 3826002220 ∷ 3876335077 ∷ 3214735720 ∷ []
hashes_are_those_of_fnv1a = refl
