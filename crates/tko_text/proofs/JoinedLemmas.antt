-- Words that are joined by single spaces.
use Rattle.std.proofs.Common.{◌≡◌, ◌≢◌, ℕ, ◌<◌, true, ◌&&◌, List, [], ◌∷◌, ◌++◌, length, drop, refl, ap, ◌∙◌, arith, length-append, take_all}
use Rattle.std.specs.List.{All, join_with_byte, list_all}
use Rattle.std.specs.Prelude.{nat_lt}
use Rattle.std.proofs.Math.Seq.{drop-append_seam, take-append_seam}
use Rattle.std.proofs.lemmas.Bool.{and_parts, ltb-true}
use Rattle.std.proofs.lemmas.List.{drop_all, get_or_at, get_or_append_left}
use Rattle.std.proofs.lemmas.List.Elements.{All-append, All-cons, All-head, All-nil, All-tail, All-weaker}
use Rattle.std.proofs.lemmas.List.Sums.{AllPass-from_list_all}
use Rattle.tko_bytes.specs.Lines.{HasNoEnd, line_feed, carriage_return}
use Rattle.tko_bytes.specs.Words.{space, words}
use Rattle.tko_bytes.proofs.WordLemmas.{words-run}

-- bytes that are no control characters and no spaces, one or more
pub record IsPlain (word : List ℕ) : Type 0 where
  pub some : 0 < length word
  pub each : All (λ b. 32 < b) word

-- by a test
pub plain_by : (word : List ℕ) → nat_lt 0 (length word) && list_all (λ b. nat_lt 32 b) word ≡ true → IsPlain word
plain_by word test =
    let parts = and_parts (nat_lt 0 (length word)) (list_all (λ b. nat_lt 32 b) word) test in record {
      some = ltb-true 0 (length word) parts.0;
      each = All-weaker (λ b. nat_lt 32 b ≡ true) (λ b. 32 < b) (λ b h. ltb-true 32 b h) word (AllPass-from_list_all (λ b. nat_lt 32 b) word parts.1);
    }

words-one : (word : List ℕ) → IsPlain word → words word ≡ word ∷ []
words-one word plain =
    words-run word (length word) plain.some (omega arith)
    (λ k h e. let b = plain.each k 0 h in omega (arith, b)) (λ h. absurd (omega arith))
    ∙ ap (λ w. w ∷ words (drop (length word) word)) (take_all (length word) word (omega arith))
    ∙ ap (λ rest. word ∷ words rest) (drop_all (length word) word (omega arith))

words-more : (word rest : List ℕ) → IsPlain word → words (word ++ space ∷ rest) ≡ word ∷ words rest
words-more word rest plain =
    words-run (word ++ space ∷ rest) (length word) plain.some (omega (arith, length-append word (space ∷ rest)))
    (λ k h e. let b = plain.each k 0 h in omega (arith, b, e, get_or_append_left word (space ∷ rest) 0 k h))
    (λ h. get_or_at word space rest 0 (length word) refl)
    ∙ ap (λ w. w ∷ words (drop (length word) (word ++ space ∷ rest))) (take-append_seam word (space ∷ rest))
    ∙ ap (λ r. word ∷ words r) (drop-append_seam word (space ∷ rest))

-- the words of joined words are these
pub words-join : (ws : List (List ℕ)) → All IsPlain ws → words (join_with_byte space ws) ≡ ws
words-join [] all = refl
words-join (w ∷ []) all = words-one w (All-head IsPlain w [] all)
words-join (w ∷ v ∷ ws) all =
    words-more w (join_with_byte space (v ∷ ws)) (All-head IsPlain w (v ∷ ws) all)
    ∙ ap (λ rest. w ∷ rest) (words-join (v ∷ ws) (All-tail IsPlain w (v ∷ ws) all))

abbrev NoEnd : ℕ → Type 0
NoEnd b = b ≢ line_feed

no_end : (word : List ℕ) → IsPlain word → All NoEnd word
no_end word plain = All-weaker (λ b. 32 < b) NoEnd (λ b h e. omega (arith, h, e)) word plain.each

-- no LF is among them
unended-join : (ws : List (List ℕ)) → All IsPlain ws → All NoEnd (join_with_byte space ws)
unended-join [] all = All-nil NoEnd
unended-join (w ∷ []) all = no_end w (All-head IsPlain w [] all)
unended-join (w ∷ v ∷ ws) all =
    All-append NoEnd w (space ∷ join_with_byte space (v ∷ ws)) (no_end w (All-head IsPlain w (v ∷ ws) all))
    (All-cons NoEnd space (join_with_byte space (v ∷ ws)) (λ e. omega (arith, e)) (unended-join (v ∷ ws) (All-tail IsPlain w (v ∷ ws) all)))

pub unended-line : (ws : List (List ℕ)) → All IsPlain ws → HasNoEnd (join_with_byte space ws ++ carriage_return ∷ [])
unended-line ws all =
    All-append NoEnd (join_with_byte space ws) (carriage_return ∷ []) (unended-join ws all)
    (All-cons NoEnd carriage_return [] (λ e. omega (arith, e)) (All-nil NoEnd))
