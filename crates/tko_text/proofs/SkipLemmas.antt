-- Skipping to the first LF.
use Rattle.std.proofs.Common.{◌≡◌, ℕ, zero, suc, ◌+◌, ◌<◌, ◌≢◌, List, [], ◌∷◌, Some, None, length, get_or, drop, refl, ap, ◌∙◌, arith, eq-eqb, ne_eqb, eqb-true}
use Rattle.std.proofs.lemmas.Bool.{cond-true, cond-false}
use Rattle.memchr.specs.Find.{IsFirstByte, is_byte}
use Rattle.tko_bytes.specs.Lines.{line_feed}
use Rattle.tko_text.specs.Commands.{Next, PassLine}
use Rattle.tko_text.specs.Reading.{passed}
use Rattle.tko_text.specs.States.{at}

skips_to : (bytes : List ℕ) (n : ℕ) → n < length bytes → ((k : ℕ) → k < n → get_or bytes k 0 ≢ line_feed)
    → get_or bytes n 0 ≡ line_feed → passed PassLine bytes ≡ record { after = Next; unread = drop (n + 1) bytes }
skips_to [] n inside none here = absurd (omega arith)
skips_to (b ∷ bytes) zero inside none here = cond-true _ _ _ (eq-eqb b line_feed here)
skips_to (b ∷ bytes) (suc n) inside none here =
    cond-false _ _ _ (ne_eqb b line_feed (none 0 (omega arith)))
    ∙ skips_to bytes n (omega arith) (λ k h. none (suc k) (omega arith)) here
    ∙ (let e : suc (n + 1) ≡ suc n + 1 = omega arith in ap (λ k. at (drop k (b ∷ bytes))) e)

skips_all : (bytes : List ℕ) → ((k : ℕ) → k < length bytes → get_or bytes k 0 ≢ line_feed)
    → passed PassLine bytes ≡ record { after = PassLine; unread = [] }
skips_all [] none = refl
skips_all (b ∷ bytes) none =
    cond-false _ _ _ (ne_eqb b line_feed (none 0 (omega arith)))
    ∙ skips_all bytes (λ k h. none (suc k) (omega arith))

pub skipped_some : (bytes : List ℕ) (n : ℕ) → IsFirstByte (is_byte line_feed) bytes (Some n)
    → passed PassLine bytes ≡ record { after = Next; unread = drop (n + 1) bytes }
skipped_some bytes n found =
    skips_to bytes n found.0.high (λ k h e. found.0.before k (omega arith) h (eq-eqb _ line_feed e)) (eqb-true _ line_feed found.1)

pub skipped_none : (bytes : List ℕ) → IsFirstByte (is_byte line_feed) bytes None
    → passed PassLine bytes ≡ record { after = PassLine; unread = [] }
skipped_none bytes none = skips_all bytes (λ k h e. none k (omega arith) h (eq-eqb _ line_feed e))
