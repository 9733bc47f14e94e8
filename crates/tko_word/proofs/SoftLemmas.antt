-- The soft word and its two counts, after what the steps on it add and take.
use Rattle.std.proofs.Common.{◌≡◌, ℕ, ◌+◌, ◌-◌, ◌^◌, ◌<◌, arith}
use Rattle.tko_word.specs.Words.{firm_in, held_in, one_slot, slot_over_mark, soft_word, word_minus, word_plus}

-- what a soft word holds is what it was made of
pub firm_in-soft_word : (firm held : ℕ) → firm < 2 ^ 32 → firm_in (soft_word firm held) ≡ firm
unfolding firm_in
firm_in-soft_word firm held low = omega arith

pub held_in-soft_word : (firm held : ℕ) → firm < 2 ^ 32 → held_in (soft_word firm held) ≡ held
unfolding held_in
held_in-soft_word firm held low = omega arith

pub soft_word_of : (word : ℕ) → soft_word (firm_in word) (held_in word) ≡ word
unfolding firm_in held_in
soft_word_of word = omega arith

pub firm_in-lt : (word : ℕ) → firm_in word < 2 ^ 32
unfolding firm_in
firm_in-lt word = omega arith

pub held_in-lt : (word : ℕ) → word < 2 ^ 64 → held_in word < 2 ^ 32
unfolding held_in
held_in-lt word fits = omega arith

-- a slot is reserved
pub soft_word-reserve : (firm held : ℕ) → firm < 2 ^ 32 → held + 1 < 2 ^ 32
    → word_plus (soft_word firm held) one_slot ≡ soft_word firm (held + 1)
soft_word-reserve firm held few fits = omega arith

-- a held slot becomes a settled mark
pub soft_word-settle : (firm held : ℕ) → firm + 1 < 2 ^ 32 → 0 < held → held < 2 ^ 32
    → word_minus (soft_word firm held) slot_over_mark ≡ soft_word (firm + 1) (held - 1)
soft_word-settle firm held few some fits = omega arith

-- a settled mark becomes a held slot
pub soft_word-loosen : (firm held : ℕ) → 0 < firm → firm < 2 ^ 32 → held + 1 < 2 ^ 32
    → word_plus (soft_word firm held) slot_over_mark ≡ soft_word (firm - 1) (held + 1)
soft_word-loosen firm held some few fits = omega arith

-- a held slot is given back
pub soft_word-give : (firm held : ℕ) → firm < 2 ^ 32 → 0 < held → held < 2 ^ 32
    → word_minus (soft_word firm held) one_slot ≡ soft_word firm (held - 1)
soft_word-give firm held few some fits = omega arith
