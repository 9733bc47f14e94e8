-- The words of some marks, stamps and counts, computed.
use Rattle.std.proofs.Common.{◌≡◌, [], ◌∷◌, refl}
use Rattle.tko_model.specs.declared.mark.Mark.TheVariants.{Up, Soft, Hard}
use Rattle.tko_word.specs.Words.{firm_in, health_word, held_in, soft_word}

packed_numbers : health_word (Up 2) 5 ∷ health_word (Soft 3) 6 ∷ health_word (Hard 3) 7
    ∷ health_word (Up 4095) 1 ∷ health_word (Soft 1023) 0 ∷ health_word (Hard 1023) 0
    ∷ soft_word 1 2 ∷ firm_in 8589934593 ∷ held_in 8589934593 ∷ []
    ≡ 40962 ∷ 53254 ∷ 61447 ∷ 12287 ∷ 6142 ∷ 6143 ∷ 8589934593 ∷ 1 ∷ 2 ∷ []
unfolding firm_in held_in
packed_numbers = refl
