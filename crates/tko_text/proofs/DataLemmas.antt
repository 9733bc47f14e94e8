-- A header, its data, and what follows them.
use Rattle.std.proofs.Common.{◌≡◌, ℕ, ◌+◌, ◌<◌, ◌≤◌, ◌≢◌, List, [], ◌∷◌, ◌++◌, length, get_or, take, drop, refl, ap, sym, ◌∙◌, subst, inl, inr, arith, ne_eqb, append_assoc, length-append, length-take-le, take-append-drop}
use Rattle.std.proofs.lemmas.Bool.{cond-false}
use Rattle.std.proofs.lemmas.List.{drop_more, get_or_at}
use Rattle.tko_bytes.specs.Lines.{line_feed, carriage_return, crlf, content}
use Rattle.tko_text.specs.declared.data.DataEnd.TheVariants as end
use Rattle.tko_text.specs.declared.fault.TextFault.TheVariants as fault
use Rattle.tko_text.specs.declared.item.Item.{Item}
use Rattle.tko_text.specs.declared.item.Item.TheVariants as item
use Rattle.tko_text.specs.declared.request.Request.{Request}
use Rattle.tko_text.specs.Commands.{AwaitsData, parsed}
use Rattle.tko_text.specs.DataEnds.{EndsData, IsOpenData}
use Rattle.tko_text.specs.Lines.{IsLine}
use Rattle.tko_text.specs.Reading.{After, Next, PassLine, Reading, IsWrongEnd, Completes, Decides, by_line, by_length, passed, Emits, NeedsMore}
use Rattle.tko_text.specs.States.{at}
use Rattle.tko_text.proofs.CuttingLemmas.{same_line, line_is_short}

-- the byte at a place, and what follows it
byte_at : (bytes : List ℕ) (n b : ℕ) → n < length bytes → get_or bytes n 0 ≡ b → drop n bytes ≡ b ∷ drop (n + 1) bytes
byte_at bytes n b inside is = drop_more bytes n 0 inside ∙ ap (λ c. c ∷ drop (n + 1) bytes) is

-- a list, cut before so many bytes that follow a place
cut : (bytes end left : List ℕ) (size : ℕ) → drop size bytes ≡ end ++ left → bytes ≡ (take size bytes ++ end) ++ left
cut bytes end left size rest =
    sym (take-append-drop size bytes) ∙ ap (λ xs. take size bytes ++ xs) rest ∙ sym (append_assoc (take size bytes) end left)

module _ (before rest : List ℕ) (size : ℕ) (asked : List ℕ → Request) (line : IsLine before)
    (is : parsed (content before) ≡ AwaitsData size asked) where
  -- the whole text of a line, its data and their end
  whole : (end left : List ℕ) → rest ≡ (take size rest ++ end) ++ left
      → before ++ line_feed ∷ rest ≡ (before ++ line_feed ∷ (take size rest ++ end)) ++ left
  whole end left parts =
      ap (λ xs. before ++ line_feed ∷ xs) parts ∙ sym (append_assoc before (line_feed ∷ (take size rest ++ end)) left)

  emits : (end left : List ℕ) (emitted : Item) (after : After) → rest ≡ (take size rest ++ end) ++ left
      → Completes (AwaitsData size asked) (take size rest ++ end) emitted after
      → Emits (at (before ++ line_feed ∷ rest)) emitted (passed after left)
  unfolding Emits
  emits end left emitted after parts completes = (
    before ++ line_feed ∷ (take size rest ++ end),
    left,
    after,
    ap at (whole end left parts),
    by_line before (take size rest ++ end) line refl
        (subst (λ p. Completes p (take size rest ++ end) emitted after) (sym is) completes),
    refl,
  )

  pub Emits-whole : EndsData rest size end.Whole
      → Emits (at (before ++ line_feed ∷ rest)) (item.Request (asked (take size rest))) (at (drop (size + 1 + 1) rest))
  Emits-whole found =
      emits crlf (drop (size + 1 + 1) rest) (item.Request (asked (take size rest))) Next
      (cut rest crlf (drop (size + 1 + 1) rest) size
      (byte_at rest size carriage_return (omega (arith, found.0)) found.1
      ∙ ap (λ xs. carriage_return ∷ xs) (byte_at rest (size + 1) line_feed found.0 found.2)))
      (take size rest, length-take-le size rest (omega (arith, found.0)), refl, refl, refl)

  one_wrong : (b : ℕ) → size < length rest → get_or rest size 0 ≡ b → b ≢ carriage_return → (after : After)
      → IsWrongEnd (b ∷ []) after
      → Emits (at (before ++ line_feed ∷ rest)) (item.Fault fault.BadChunk) (passed after (drop (size + 1) rest))
  one_wrong b inside here other after wrong =
      emits (b ∷ []) (drop (size + 1) rest) (item.Fault fault.BadChunk) after
      (cut rest (b ∷ []) (drop (size + 1) rest) size (byte_at rest size b inside here))
      (take size rest, b ∷ [], length-take-le size rest (omega arith), refl, wrong, refl)

  pub Emits-wrong_line : (count : ℕ) → EndsData rest size (end.WrongLine count)
      → Emits (at (before ++ line_feed ∷ rest)) (item.Fault fault.BadChunk) (at (drop count rest))
  Emits-wrong_line count found =
      let other : line_feed ≢ carriage_return = λ e. omega (arith, e) in
      subst (λ n. Emits (at (before ++ line_feed ∷ rest)) (item.Fault fault.BadChunk) (at (drop n rest))) (sym found.0)
      (one_wrong line_feed found.1 found.2 other Next (other, refl))

  pub Emits-wrong : (count : ℕ) → EndsData rest size (end.Wrong count)
      → Emits (at (before ++ line_feed ∷ rest)) (item.Fault fault.BadChunk) (passed PassLine (drop count rest))
  Emits-wrong count (inl found) =
      let b = get_or rest size 0 in
      subst (λ n. Emits (at (before ++ line_feed ∷ rest)) (item.Fault fault.BadChunk) (passed PassLine (drop n rest))) (sym found.0)
      (one_wrong b found.1 refl found.2 PassLine (found.2, sym (cond-false _ _ _ (ne_eqb b line_feed found.3))))
  Emits-wrong count (inr found) =
      let b = get_or rest (size + 1) 0 in
      let same : size + 1 + 1 ≡ count = omega (arith, found.0) in
      subst (λ n. Emits (at (before ++ line_feed ∷ rest)) (item.Fault fault.BadChunk) (passed PassLine (drop n rest))) same
      (emits (carriage_return ∷ b ∷ []) (drop (size + 1 + 1) rest) (item.Fault fault.BadChunk) PassLine
      (cut rest (carriage_return ∷ b ∷ []) (drop (size + 1 + 1) rest) size
      (byte_at rest size carriage_return (omega (arith, found.1)) found.2
      ∙ ap (λ xs. carriage_return ∷ xs) (byte_at rest (size + 1) b found.1 refl)))
      (take size rest, carriage_return ∷ b ∷ [], length-take-le size rest (omega (arith, found.1)), refl, (refl, found.3, refl), refl))

  -- fewer bytes than data and CR LF
  too_few : (end left : List ℕ) (value : List ℕ) (n : ℕ) → length value ≡ size → rest ≡ (value ++ end) ++ left → length end ≡ n
      → size + n ≤ length rest
  too_few end left value n len parts size_is =
      omega (arith, ap length parts, length-append (value ++ end) left, length-append value end, len, size_is)

  undecided : (following left : List ℕ) (emitted : Item) (after : After) → IsOpenData rest size → rest ≡ following ++ left
      → Completes (AwaitsData size asked) following emitted after → ⊥
  undecided following left (item.Request r) after open_data parts (value, len, same, r_is, a_is) =
      let many = too_few crlf left value 2 len (parts ∙ ap (λ xs. xs ++ left) same) refl in
      elim open_data [ inl short ↦ omega (arith, short, many) | inr cr ↦ omega (arith, cr.0, many) ]
  undecided following left (item.Fault f) after open_data parts (value, [], len, same, wrong, f_is) = wrong
  undecided following left (item.Fault f) after open_data parts (value, b ∷ [], len, same, wrong, f_is) =
      let all = parts ∙ ap (λ xs. xs ++ left) same in
      let many = too_few (b ∷ []) left value 1 len all refl in
      elim open_data [
        | inl short ↦ omega (arith, short, many)
        | inr cr ↦ wrong.0 (sym (ap (λ xs. get_or xs size 0) (all ∙ append_assoc value (b ∷ []) left) ∙ get_or_at value b left 0 size len) ∙ cr.1)
      ]
  undecided following left (item.Fault f) after open_data parts (value, b ∷ c ∷ [], len, same, wrong, f_is) =
      let many = too_few (b ∷ c ∷ []) left value 2 len (parts ∙ ap (λ xs. xs ++ left) same) refl in
      elim open_data [ inl short ↦ omega (arith, short, many) | inr cr ↦ omega (arith, cr.0, many) ]
  undecided following left (item.Fault f) after open_data parts (value, b ∷ c ∷ d ∷ more, len, same, wrong, f_is) = wrong

  undecided_text : (text left : List ℕ) (emitted : Item) (after : After) → IsOpenData rest size
      → before ++ line_feed ∷ rest ≡ text ++ left → Decides text emitted after → ⊥
  undecided_text text left emitted after open_data e (by_line b m bl bp bc) =
      let lines = same_line before b rest (m ++ left) line.unended bl.unended
      (e ∙ ap (λ z. z ++ left) bp ∙ append_assoc b (line_feed ∷ m) left) in
      let here : parsed (content b) ≡ AwaitsData size asked = ap (λ z. parsed (content z)) (sym lines.0) ∙ is in
      undecided m left emitted after open_data lines.1 (subst (λ p. Completes p m emitted after) here bc)
  undecided_text text left emitted after open_data e (by_length long e_is a_is) =
      line_is_short before text rest left line long e

  pub NeedsMore-data : EndsData rest size end.Open → NeedsMore (at (before ++ line_feed ∷ rest))
  unfolding NeedsMore Emits
  NeedsMore-data open_data emitted to (text, left, after, from, decides, goes) =
      undecided_text text left emitted after open_data (ap (λ (r : Reading). r.unread) from) decides
