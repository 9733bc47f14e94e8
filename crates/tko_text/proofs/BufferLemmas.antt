-- One more search of a queue for LF.
use Rattle.std.proofs.Common.{◌≡◌, ℕ, ◌+◌, ◌-◌, ◌<◌, ◌≤◌, ◌≢◌, List, length, get_or, take, drop, ap, ◌∙◌, subst, sym, refl, inl, inr, arith, eq-eqb, eqb-true, Some, None, length-drop}
use Rattle.std.proofs.lemmas.Bool.{cases_lt}
use Rattle.std.proofs.lemmas.List.{take_rest, get_or-drop}
use Rattle.memchr.specs.Find.{IsFirstByte, is_byte}
use Rattle.tko_bytes.specs.Lines.{line_feed}
use Rattle.tko_text.specs.Buffers.{IsSearched}

-- what is left to search
abbrev pub unsearched : List ℕ → ℕ → List ℕ
unsearched bytes searched = take (length bytes - searched) (drop searched bytes)

get_or-unsearched : (bytes : List ℕ) (searched k : ℕ)
    → get_or (unsearched bytes searched) k 0 ≡ get_or bytes (searched + k) 0
get_or-unsearched bytes searched k =
    ap (λ xs. get_or xs k 0) (take_rest bytes searched) ∙ get_or-drop searched bytes k 0

length-unsearched : (bytes : List ℕ) (searched : ℕ)
    → length (unsearched bytes searched) ≡ length bytes - searched
length-unsearched bytes searched = ap length (take_rest bytes searched) ∙ length-drop searched bytes

module _ (bytes : List ℕ) (start searched : ℕ) (is : IsSearched bytes start searched) where
  -- the search has passed so many bytes more
  IsSearched-more : (n : ℕ) → searched + n ≤ length bytes
      → ((k : ℕ) → k < n → get_or (unsearched bytes searched) k 0 ≢ line_feed)
      → IsSearched bytes start (searched + n)
  IsSearched-more n within none = record {
    begins = omega (arith, is.begins);
    ends = within;
    unended = λ k low high. elim (cases_lt k searched) [
      | inl below ↦ is.unended k low below
      | inr above ↦ λ ended.
          let at : searched + (k - searched) ≡ k = omega arith in
          none (k - searched) (omega arith)
          (get_or-unsearched bytes searched (k - searched) ∙ ap (λ i. get_or bytes i 0) at ∙ ended)
    ];
  }

  pub IsSearched-some : (at : ℕ)
      → IsFirstByte (is_byte line_feed) (unsearched bytes searched) (Some at)
      → IsSearched bytes start (searched + at)
  IsSearched-some at found =
      IsSearched-more at (omega (arith, found.0.high, is.ends, length-unsearched bytes searched))
      (λ k h ended. found.0.before k (omega arith) h (eq-eqb _ line_feed ended))

  pub IsSearched-none : (end : ℕ) → end ≡ length bytes
      → IsFirstByte (is_byte line_feed) (unsearched bytes searched) None → IsSearched bytes start end
  IsSearched-none end end_is none =
      let all : searched + (length bytes - searched) ≡ end = omega (arith, is.ends, end_is) in
      subst (λ n. IsSearched bytes start n) all
      (IsSearched-more (length bytes - searched) (omega (arith, is.ends))
      (λ k h ended. none k (omega arith) (omega (arith, length-unsearched bytes searched))
      (eq-eqb _ line_feed ended)))

-- nothing was found in the queue so far as it is searched
IsSearched-queue : (bytes : List ℕ) (start searched : ℕ) → IsSearched bytes start searched
    → (k : ℕ) → k < searched - start → get_or (drop start bytes) k 0 ≢ line_feed
IsSearched-queue bytes start searched is k h ended =
    is.unended (start + k) (omega arith) (omega (arith, is.begins)) (sym (get_or-drop start bytes k 0) ∙ ended)

pub line_end-some : (bytes : List ℕ) (start searched at : ℕ) → IsSearched bytes start searched
    → IsFirstByte (is_byte line_feed) (unsearched bytes searched) (Some at)
    → IsFirstByte (is_byte line_feed) (drop start bytes) (Some (searched + at - start))
line_end-some bytes start searched at is found =
    let to = IsSearched-some bytes start searched is at found in
    let place : start + (searched + at - start) ≡ searched + at = omega (arith, is.begins) in (
      record {
        low = omega arith;
        high = omega (arith, found.0.high, is.begins, is.ends, length-unsearched bytes searched, length-drop start bytes);
        before = λ k low high ended. IsSearched-queue bytes start (searched + at) to k high (eqb-true _ line_feed ended);
      },
      eq-eqb _ line_feed
          (get_or-drop start bytes (searched + at - start) 0 ∙ ap (λ i. get_or bytes i 0) place
          ∙ sym (get_or-unsearched bytes searched at) ∙ eqb-true _ line_feed found.1),
    )

pub line_end-none : (bytes : List ℕ) (start searched : ℕ) → IsSearched bytes start searched
    → IsFirstByte (is_byte line_feed) (unsearched bytes searched) None
    → IsFirstByte (is_byte line_feed) (drop start bytes) None
line_end-none bytes start searched is none k low high ended =
    IsSearched-queue bytes start (length bytes) (IsSearched-none bytes start searched is _ refl none) k
    (omega (arith, length-drop start bytes)) (eqb-true _ line_feed ended)
