-- A list of which a beginning was counted.
use Rattle.std.proofs.Common.{◌≡◌, ℕ, ◌<◌, ◌≢◌, min, List, [], ◌∷◌, ◌++◌, length, Option, take, refl, sym, ap, ◌∙◌, subst, append_assoc, append-nil, arith}
use Rattle.std.proofs.lemmas.List.Elements.{All-append, All-nil}
use Rattle.std.proofs.lemmas.List.{length-take, nil_from_length}
use Rattle.serde_json.specs.View.{view}
use Rattle.tko_bytes.specs.Lines.{HasNoEnd, SplitsAtEnd, content, line_feed, lines_of}
use Rattle.tko_bytes.proofs.LineLemmas.{lines_of-last, lines_of-split}
use Rattle.tko_explain.specs.KeyCounting.{HasBegunLine, IsCountedOver, IsConfigurationOf, IsTalliedOver, kept_bytes}
use Rattle.tko_explain.specs.KeyTallies.{AreTallied}
use Rattle.tko_explain.specs.Moves.{IsComparedWith}
use Rattle.tko_explain.specs.declared.key_counts.KeyCounts.{KeyCounts}
use Rattle.tko_explain.proofs.KeptLemmas.{is_kept}
use Rattle.tko_explain.proofs.TallyLemmas.{tallied_content, tallied_kept}

-- more bytes of the line that has not ended
begun_more : (list bytes begun : List ℕ) (ended : List (List ℕ)) → HasNoEnd bytes
    → HasBegunLine list ended begun → HasBegunLine (list ++ bytes) ended (begun ++ bytes)
begun_more list bytes begun ended none is = record {
  unended = All-append (λ b. b ≢ line_feed) begun bytes is.unended none;
  lines = λ more. ap lines_of (append_assoc list bytes more) ∙ is.lines (bytes ++ more)
      ∙ ap (λ it. ended ++ lines_of it) (sym (append_assoc begun bytes more));
}

-- the end of that line
begun_ended : (list begun : List ℕ) (ended : List (List ℕ)) → HasBegunLine list ended begun
    → HasBegunLine (list ++ line_feed ∷ []) (ended ++ content begun ∷ []) []
begun_ended list begun ended is = record {
  unended = All-nil _;
  lines = λ more.
      let split : SplitsAtEnd (begun ++ line_feed ∷ more) begun more = record { unended = is.unended; whole = refl } in
      ap lines_of (append_assoc list (line_feed ∷ []) more) ∙ is.lines (line_feed ∷ more)
      ∙ ap (λ them. ended ++ them) (lines_of-split _ begun more split)
      ∙ sym (append_assoc ended (content begun ∷ []) (lines_of more));
}

-- a beginning that no more follows
begun_all : (list begun : List ℕ) (ended : List (List ℕ)) → HasBegunLine list ended begun
    → lines_of list ≡ ended ++ lines_of begun
begun_all list begun ended is =
    ap lines_of (sym (append-nil list)) ∙ is.lines [] ∙ ap (λ it. ended ++ lines_of it) (append-nil begun)

-- what was counted, once more bytes of the line were kept
pub counted_more : (json : List ℕ) (against : Option (List ℕ)) (list bytes : List ℕ) (old new : KeyCounts) → HasNoEnd bytes
    → IsCountedOver json against list old → new.root ≡ old.root → new.tally ≡ old.tally
    → ((line : List ℕ) → old.begun.items ≡ take kept_bytes line → new.begun.items ≡ take kept_bytes (line ++ bytes))
    → IsCountedOver json against (list ++ bytes) new
counted_more json against list bytes old new none is root tally keeps = record {
  ended = is.ended;
  begun = is.begun ++ bytes;
  is_begun = begun_more list bytes is.begun is.ended none is.is_begun;
  tallied = subst (λ it. IsTalliedOver json against is.ended it new.tally) (sym root)
      (subst (λ it. IsTalliedOver json against is.ended old.root it) (sym tally) is.tallied);
  kept = keeps is.begun is.kept;
}

-- and once the line has ended, and was counted
pub counted_line : (json : List ℕ) (against : Option (List ℕ)) (list : List ℕ) (old new : KeyCounts)
    → IsCountedOver json against list old → new.root ≡ old.root → new.tally.config ≡ old.tally.config
    → new.tally.compared ≡ old.tally.compared
    → ((lines : List (List ℕ)) → AreTallied lines old.tally
    → AreTallied (lines ++ content old.begun.items ∷ []) new.tally)
    → new.begun.items ≡ [] → IsCountedOver json against (list ++ line_feed ∷ []) new
counted_line json against list old new is root config same tallies none = record {
  ended = is.ended ++ content is.begun ∷ [];
  begun = [];
  is_begun = begun_ended list is.begun is.ended is.is_begun;
  tallied = record {
    is_read = subst (λ it. IsConfigurationOf json it new.tally.config) (sym root)
        (subst (λ it. IsConfigurationOf json old.root it) (sym config) is.tallied.is_read);
    compared = subst (λ it. IsComparedWith against (view it) new.tally.compared) (sym root)
        (subst (λ it. IsComparedWith against (view old.root) it) (sym same) is.tallied.compared);
    tallied = tallied_content is.ended old.begun.items is.begun new.tally (is_kept _ is.begun is.kept)
        (tallies is.ended is.tallied.tallied);
  };
  kept = none;
}

-- a list whose last line has ended
pub counted_ended : (json : List ℕ) (against : Option (List ℕ)) (list : List ℕ) (counts : KeyCounts) → IsCountedOver json against list counts
    → length counts.begun.items ≡ 0 → IsTalliedOver json against (lines_of list) counts.root counts.tally
unfolding lines_of
counted_ended json against list counts is none =
    let lengths : length counts.begun.items ≡ min kept_bytes (length is.begun) =
    ap length is.kept ∙ length-take kept_bytes is.begun in
    let empty : is.begun ≡ [] = nil_from_length is.begun (omega (arith, lengths, none)) in
    let lines : lines_of list ≡ is.ended =
    begun_all list is.begun is.ended is.is_begun ∙ ap (λ it. is.ended ++ lines_of it) empty ∙ append-nil is.ended in
    subst (λ it. IsTalliedOver json against it counts.root counts.tally) (sym lines) is.tallied

-- and one whose last line was counted
pub counted_last : (json : List ℕ) (against : Option (List ℕ)) (list : List ℕ) (old new : KeyCounts) → IsCountedOver json against list old
    → 0 < length old.begun.items → new.root ≡ old.root → new.tally.config ≡ old.tally.config
    → new.tally.compared ≡ old.tally.compared
    → ((lines : List (List ℕ)) → AreTallied lines old.tally
    → AreTallied (lines ++ old.begun.items ∷ []) new.tally)
    → IsTalliedOver json against (lines_of list) new.root new.tally
unfolding lines_of
counted_last json against list old new is some root config same tallies =
    let lengths : length old.begun.items ≡ min kept_bytes (length is.begun) =
    ap length is.kept ∙ length-take kept_bytes is.begun in
    let last : lines_of is.begun ≡ is.begun ∷ [] =
    lines_of-last is.begun [] (omega (arith, lengths, some)) refl is.is_begun.unended in
    let lines : lines_of list ≡ is.ended ++ is.begun ∷ [] =
    begun_all list is.begun is.ended is.is_begun ∙ ap (λ them. is.ended ++ them) last in
    record {
      is_read = subst (λ it. IsConfigurationOf json it new.tally.config) (sym root)
          (subst (λ it. IsConfigurationOf json old.root it) (sym config) is.tallied.is_read);
      compared = subst (λ it. IsComparedWith against (view it) new.tally.compared) (sym root)
          (subst (λ it. IsComparedWith against (view old.root) it) (sym same) is.tallied.compared);
      tallied = subst (λ it. AreTallied it new.tally) (sym lines)
          (tallied_kept is.ended old.begun.items is.begun new.tally (is_kept _ is.begun is.kept)
          (tallies is.ended is.tallied.tallied));
    }

-- of a list so much was counted that these bytes are left
pub record IsTaken (json : List ℕ) (against : Option (List ℕ)) (list left : List ℕ) (counts : KeyCounts) : Type 0 where
  pub so_far : List ℕ
  pub whole : list ≡ so_far ++ left
  pub counted : IsCountedOver json against so_far counts

-- of which a line was counted
pub taken_line : (json : List ℕ) (against : Option (List ℕ)) (list left line rest : List ℕ) (old new : KeyCounts) → IsTaken json against list left old
    → SplitsAtEnd left line rest
    → ((list : List ℕ) → IsCountedOver json against list old → IsCountedOver json against (list ++ line ++ line_feed ∷ []) new)
    → IsTaken json against list rest new
taken_line json against list left line rest old new is split counts = record {
  so_far = is.so_far ++ line ++ line_feed ∷ [];
  whole = is.whole ∙ ap (λ it. is.so_far ++ it) split.whole
      ∙ sym (append_assoc is.so_far line (line_feed ∷ rest))
      ∙ sym (append_assoc (is.so_far ++ line) (line_feed ∷ []) rest);
  counted = counts is.so_far is.counted;
}

-- or all of them
pub taken_all : (json : List ℕ) (against : Option (List ℕ)) (list left : List ℕ) (old new : KeyCounts) → IsTaken json against list left old
    → ((list : List ℕ) → IsCountedOver json against list old → IsCountedOver json against (list ++ left) new)
    → IsCountedOver json against list new
taken_all json against list left old new is counts =
    subst (λ it. IsCountedOver json against it new) (sym is.whole) (counts is.so_far is.counted)
