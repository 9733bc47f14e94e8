-- The bytes that are kept of a line, and whether it is a key.
use Rattle.std.proofs.Common.{◌≡◌, ℕ, ◌+◌, ◌-◌, ◌<◌, ◌≤◌, ◌⊎◌, inl, inr, min, Bool, true, false, ◌&&◌, eqb, nat_le, List, ◌++◌, length, take, slice_index, refl, sym, ap, ◌∙◌, take_all, append-nil, arith}
use Rattle.std.specs.List.{list_all}
use Rattle.std.proofs.Math.Seq.{take-append-add}
use Rattle.std.proofs.lemmas.Bool.{cases_Bool, cases_lt, cond-false, cond-true, lt-leb}
use Rattle.std.proofs.lemmas.List.{length-take, take-append-le, take_min}
use Rattle.tko_bytes.specs.Lines.{content}
use Rattle.tko_explain.specs.KeyCounting.{kept_bytes}
use Rattle.tko_text.specs.Keys.{is_key, is_key_byte}

-- of a line that is too long no more is kept
kept_whole : (line bytes kept new : List ℕ) (room : ℕ) → kept ≡ take kept_bytes line
    → room ≡ min (kept_bytes - length kept) (length bytes) → new ≡ kept ++ take room bytes
    → kept_bytes < length line → new ≡ take kept_bytes (line ++ bytes)
kept_whole line bytes kept new room is left e long =
    let full : length kept ≡ min kept_bytes (length line) = ap length is ∙ length-take kept_bytes line in
    let none : room ≡ 0 = omega (arith, full, left) in
    e ∙ ap (λ n. kept ++ take n bytes) none ∙ append-nil kept ∙ is
    ∙ sym (take-append-le kept_bytes line bytes (omega arith))

-- of a line that is not, as much as there is room for
kept_part : (line bytes kept new : List ℕ) (room : ℕ) → kept ≡ take kept_bytes line
    → room ≡ min (kept_bytes - length kept) (length bytes) → new ≡ kept ++ take room bytes
    → length line ≤ kept_bytes → new ≡ take kept_bytes (line ++ bytes)
kept_part line bytes kept new room is left e short =
    let same : kept ≡ line = is ∙ take_all kept_bytes line short in
    let taken : take room bytes ≡ take (kept_bytes - length kept) bytes =
    ap (λ n. take n bytes) left ∙ take_min (kept_bytes - length kept) bytes in
    let whole : length line + (kept_bytes - length kept) ≡ kept_bytes =
    (let lengths : length kept ≡ length line = ap length same in omega (arith, lengths)) in
    e ∙ ap (λ more. kept ++ more) taken ∙ ap (λ front. front ++ take (kept_bytes - length kept) bytes) same
    ∙ sym (take-append-add line bytes (kept_bytes - length kept)) ∙ ap (λ n. take n (line ++ bytes)) whole

pub kept_more : (line bytes kept new : List ℕ) (room : ℕ) → kept ≡ take kept_bytes line
    → room ≡ min (kept_bytes - length kept) (length bytes) → new ≡ kept ++ take room bytes
    → new ≡ take kept_bytes (line ++ bytes)
kept_more line bytes kept new room is left e = elim (cases_lt kept_bytes (length line)) [
  | inl long ↦ kept_whole line bytes kept new room is left e long
  | inr short ↦ kept_part line bytes kept new room is left e short
]

and_false : (one other : Bool) → (one && (false && other)) ≡ false
and_false true other = refl
and_false false other = refl

-- a line that is too long is no key
pub long_no_key : (line : List ℕ) → 250 < length line → is_key line ≡ false
unfolding is_key
long_no_key line long = rw (lt-leb (length line) 250 long) (and_false (nat_le 1 (length line)) (list_all is_key_byte line))

-- the content of a line is at most one byte shorter
pub content-long : (line : List ℕ) → 251 < length line → 250 < length (content line)
content-long line long = elim (cases_Bool (eqb (slice_index line (length line - 1)) 13)) [
  | inl e ↦ (
      let is : content line ≡ take (length line - 1) line = cond-true _ _ _ e in
      let lengths : length (content line) ≡ min (length line - 1) (length line) =
      ap length is ∙ length-take (length line - 1) line in
      omega (arith, lengths))
  | inr e ↦ (
      let is : content line ≡ line = cond-false _ _ _ e in
      let lengths : length (content line) ≡ length line = ap length is in
      omega (arith, lengths))
]

-- what is kept of a line is all of it, or too long for a key
pub record IsKept (kept line : List ℕ) : Type 0 where
  pub same : (kept ≡ line) ⊎ ((251 < length kept) × (251 < length line))

pub is_kept : (kept line : List ℕ) → kept ≡ take kept_bytes line → IsKept kept line
is_kept kept line is = elim (cases_lt 251 (length line)) [
  | inl long ↦ (
      let lengths : length kept ≡ min kept_bytes (length line) = ap length is ∙ length-take kept_bytes line in
      record { same = inr (omega (arith, lengths), long) })
  | inr short ↦ record { same = inl (is ∙ take_all kept_bytes line (omega arith)) }
]
