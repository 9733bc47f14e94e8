-- What was counted of lines, where one that is no key is another.
use Rattle.std.proofs.Common.{◌≡◌, ℕ, ◌+◌, inl, inr, false, not, cond, List, [], ◌∷◌, ◌++◌, length, sym, ap, ◌∙◌, subst, append-nil, arith}
use Rattle.std.proofs.lemmas.Bool.{cond-false}
use Rattle.std.proofs.lemmas.List.Elements.{filter-append}
use Rattle.std.proofs.lemmas.List.Sums.{sum_by_push}
use Rattle.tko_bytes.specs.Lines.{content}
use Rattle.tko_explain.specs.KeyReports.{keys_among, keys_with_target, refused_among}
use Rattle.tko_explain.specs.KeyTallies.{AreTallied}
use Rattle.tko_explain.specs.Moves.{moved_at}
use Rattle.tko_explain.specs.declared.key_tally.KeyTally.{KeyTally}
use Rattle.tko_explain.proofs.KeptLemmas.{IsKept, content-long, long_no_key}
use Rattle.tko_text.specs.Keys.{is_key}

-- a line that is no key is not among the keys
keys_refused : (lines : List (List ℕ)) (line : List ℕ) → is_key line ≡ false
    → keys_among (lines ++ line ∷ []) ≡ keys_among lines
keys_refused lines line none =
    filter-append is_key lines (line ∷ [])
    ∙ ap (λ last. keys_among lines ++ last) (cond-false _ (line ∷ []) [] none)
    ∙ append-nil (keys_among lines)

-- and is one more of the others
refused_more : (lines : List (List ℕ)) (line : List ℕ) → is_key line ≡ false
    → refused_among (lines ++ line ∷ []) ≡ refused_among lines + 1
refused_more lines line none =
    sum_by_push (λ line. cond (not (is_key line)) 1 0) lines line
    ∙ ap (λ test. refused_among lines + cond (not test) 1 0) none

-- so one counts as another
tallied_other : (lines : List (List ℕ)) (one other : List ℕ) (tally : KeyTally)
    → is_key one ≡ false → is_key other ≡ false
    → AreTallied (lines ++ one ∷ []) tally → AreTallied (lines ++ other ∷ []) tally
tallied_other lines one other tally first second is =
    let keys : keys_among (lines ++ one ∷ []) ≡ keys_among (lines ++ other ∷ []) =
    keys_refused lines one first ∙ sym (keys_refused lines other second) in
    let refused : refused_among (lines ++ one ∷ []) ≡ refused_among (lines ++ other ∷ []) =
    refused_more lines one first ∙ sym (refused_more lines other second) in
    record {
      keys = is.keys ∙ ap length keys;
      refused = is.refused ∙ refused;
      each = λ place server. is.each place server ∙ ap (λ all. keys_with_target tally.config all place server) keys;
      moved = λ place. is.moved place ∙ ap (λ all. moved_at tally.config tally.compared all place) keys;
    }

-- what is kept of the last line counts as the line
pub tallied_kept : (lines : List (List ℕ)) (kept line : List ℕ) (tally : KeyTally) → IsKept kept line
    → AreTallied (lines ++ kept ∷ []) tally → AreTallied (lines ++ line ∷ []) tally
tallied_kept lines kept line tally either is = elim either.same [
  | inl same ↦ subst (λ it. AreTallied (lines ++ it ∷ []) tally) same is
  | inr long ↦ tallied_other lines kept line tally (long_no_key kept (omega (arith, long.0)))
      (long_no_key line (omega (arith, long.1))) is
]

-- the same of what it holds, where it has ended
pub tallied_content : (lines : List (List ℕ)) (kept line : List ℕ) (tally : KeyTally) → IsKept kept line
    → AreTallied (lines ++ content kept ∷ []) tally → AreTallied (lines ++ content line ∷ []) tally
tallied_content lines kept line tally either is = elim either.same [
  | inl same ↦ subst (λ it. AreTallied (lines ++ content it ∷ []) tally) same is
  | inr long ↦ tallied_other lines (content kept) (content line) tally
      (long_no_key (content kept) (content-long kept long.0))
      (long_no_key (content line) (content-long line long.1)) is
]
