-- The first line of a text, and those that follow it.
use Rattle.std.proofs.Common.{◌≡◌, ℕ, ◌<◌, ◌≢◌, List, [], ◌∷◌, length, refl, false, ap, ◌∙◌, arith}
use Rattle.std.specs.List.{slice_split, All}
use Rattle.std.specs.Str.Lines.{lines_of_parts}
use Rattle.std.proofs.lemmas.Bool.{cond-false, ne_eqb}
use Rattle.std.proofs.lemmas.List.Elements.{All-weaker}
use Rattle.std.proofs.lemmas.List.Splits.{length-slice_split, slice_split_at, slice_split_none}
use Rattle.memchr.specs.Find.{is_byte}
use Rattle.tko_bytes.specs.Lines.{line_feed, HasNoEnd, SplitsAtEnd, content, lines_of}

-- a part that another follows is a line
lines_of_parts-more : (part : List ℕ) (parts : List (List ℕ)) → 0 < length parts
    → lines_of_parts (part ∷ parts) ≡ content part ∷ lines_of_parts parts
lines_of_parts-more part [] some = absurd (omega arith)
lines_of_parts-more part (next ∷ parts) some = refl

-- none of these bytes is an LF, as the test of one says it
unended : (line : List ℕ) → HasNoEnd line → All (λ b. is_byte line_feed b ≡ false) line
unended line none = All-weaker (λ b. b ≢ line_feed) (λ b. is_byte line_feed b ≡ false) (λ b other. ne_eqb b line_feed other) line none

pub lines_of-split : (text line rest : List ℕ) → SplitsAtEnd text line rest
    → lines_of text ≡ content line ∷ lines_of rest
unfolding lines_of
lines_of-split text line rest is =
    ap (λ bytes. lines_of_parts (slice_split (is_byte line_feed) bytes)) is.whole
    ∙ ap lines_of_parts (slice_split_at (is_byte line_feed) line line_feed rest (unended line is.unended) refl)
    ∙ lines_of_parts-more line (slice_split (is_byte line_feed) rest) (omega (arith, length-slice_split (is_byte line_feed) rest))

pub lines_of-last : (text rest : List ℕ) → 0 < length text → length rest ≡ 0 → HasNoEnd text
    → lines_of text ≡ text ∷ lines_of rest
unfolding lines_of
lines_of-last text [] some none is =
    ap lines_of_parts (slice_split_none (is_byte line_feed) text (unended text is))
    ∙ cond-false _ _ _ (ne_eqb (length text) 0 (λ e. omega arith))
lines_of-last text (b ∷ rest) some none is = absurd (omega arith)
