-- Texts of values and the line `END`: how they begin, and that there is one reading of them.
use Rattle.std.proofs.Common.{◌≡◌, ℕ, List, [], ◌∷◌, ◌++◌, length, ◌⊎◌, Bool, ap, sym, ◌∙◌, subst, inl, inr, arith, Option, None, append_assoc, append-nil}
use Rattle.std.specs.Prelude.{codes}
use Rattle.tko_text.specs.declared.response.Response.{Response}
use Rattle.tko_text.specs.declared.response.Response.TheVariants as response
use Rattle.tko_text.specs.declared.response.body.Value.{Value}
use Rattle.tko_text.specs.ResponseLines.{IsOpenLine, IsOverlong, IsSplitLine, Split}
use Rattle.tko_text.specs.ResponseReads.IsCutListing.{in_line, in_value, after_value}
use Rattle.tko_text.specs.Responses.{RequestKind, Retrieval, Listing, Storage, Deletion, Counting, Touching, Probe, IsAnswerLine, IsListing, IsValueText, Says, block}
use Rattle.tko_text.specs.ResponseReads.{IsCutList, IsCutListing, IsCutText}
use Rattle.tko_text.proofs.ResponseBodyLemmas.{cut_data_has_none, data_is_one, head_is_one}
use Rattle.tko_text.proofs.ResponseLineLemmas.{line_is_one, open_line_has_none, overlong_has_none}
use Rattle.tko_text.proofs.ResponseWordLemmas.{says_no_head, value_says_nothing}

pub same_value : (v w : Value) → v.key ≡ w.key → v.flags ≡ w.flags → v.data ≡ w.data → v.unique ≡ w.unique → v ≡ w
same_value v w keys flags bytes cas =
    let make : List ℕ → ℕ → List ℕ → Option ℕ → Value = λ k f d c. record { key = k; flags = f; «data» = d; unique = c } in
    ap (λ k. make k v.flags v.data v.unique) keys ∙ ap (λ f. make w.key f v.data v.unique) flags
    ∙ ap (λ d. make w.key w.flags d v.unique) bytes ∙ ap (λ c. make w.key w.flags w.data c) cas

-- the first line of a value's text, and what follows it
pub text_line : (first rest : List ℕ) (v : Value) → (text : IsValueText first v) → first ++ rest ≡ text.head ++ (block v.data ++ rest)
text_line first rest v text = ap (λ xs. xs ++ rest) text.whole ∙ append_assoc text.head (block v.data) rest

-- two texts of values at the front of the same bytes are one
pub same_text : (a b x y : List ℕ) (v w : Value) → IsValueText a v → IsValueText b w → a ++ x ≡ b ++ y
    → (a ≡ b) × (v ≡ w) × (x ≡ y)
same_text a b x y v w one two e =
    let whole = sym (text_line a x v one) ∙ e ∙ text_line b y w two in
    let lines = line_is_one one.head two.head one.line two.line (block v.data ++ x) (block w.data ++ y) one.is_line two.is_line whole in
    let heads = head_is_one two.line v.key w.key v.flags w.flags (length v.data) (length w.data) v.unique w.unique
    (rw (sym lines.1) one.is_head) two.is_head in
    let parts = data_is_one v.data w.data x y heads.2 lines.2 in (
      one.whole ∙ ap (λ xs. xs ++ block v.data) lines.0 ∙ ap (λ xs. two.head ++ block xs) parts.0 ∙ sym two.whole,
      same_value v w heads.0 heads.1 parts.0 heads.3,
      parts.1,
    )

-- the text of a value begins with no line that is a response
pub text_says_nothing : (first : List ℕ) (v : Value) (rest other more : List ℕ) (line : Split) (r : Response)
    → IsValueText first v → IsSplitLine other line → Says line r → first ++ rest ≡ other ++ more → ⊥
text_says_nothing first v rest other more line r text is says e =
    let same = line_is_one text.head other text.line line (block v.data ++ rest) more text.is_line is (sym (text_line first rest v text) ∙ e) in
    says_no_head text.line v.key v.flags (length v.data) v.unique r (subst (λ (l : Split). Says l r) (sym same.1) says) text.is_head

pub text_is_no_end : (first last : List ℕ) (v : Value) (rest more : List ℕ) → IsValueText first v
    → IsAnswerLine last (response.Values None) → first ++ rest ≡ last ++ more → ⊥
text_is_no_end first last v rest more text end e =
    text_says_nothing first v rest last more end.line (response.Values None) text end.is_line end.says e

-- a listing begins with a line
pub listing_line : (front : List ℕ) (values : List Value) → IsListing front values
    → (a : List ℕ) × (s : Split) × (x : List ℕ) × IsSplitLine a s × (front ≡ a ++ x)
listing_line front [] is = (front, is.line, [], is.is_line, sym (append-nil front))
listing_line front (v ∷ vs) is =
    (is.3.head, is.3.line, block v.data ++ is.1, is.3.is_line, is.2 ∙ text_line is.0 is.1 v is.3)

-- a listing that isn't whole begins with a line that has no end yet, or with one that announces a value
pub cut_line : (keys : List (List ℕ)) (unique : Bool) (had : List (List ℕ)) (bytes : List ℕ) → IsCutListing keys unique had bytes
    → IsOpenLine bytes ⊎ ((a : List ℕ) × (s : Split) × (x : List ℕ) × IsSplitLine a s × (bytes ≡ a ++ x) × (s.word ≡ codes "VALUE"))
cut_line keys unique had bytes (in_line k u h b open_line) = inl open_line
cut_line keys unique had bytes (in_value k u h b cut) = inr (cut.head, cut.line, cut.body, cut.is_line, cut.whole, cut.is_head.word_is)
cut_line keys unique had bytes (after_value k u h b first rest v e text awaited cut) =
    inr (text.head, text.line, block v.data ++ rest, text.is_line, e ∙ text_line first rest v text, text.is_head.word_is)

pub overlong_isnt_listing : (keys : List (List ℕ)) (unique : Bool) (had : List (List ℕ)) (bytes : List ℕ) → IsOverlong bytes
    → IsCutListing keys unique had bytes → ⊥
overlong_isnt_listing keys unique had bytes overlong cut = elim (cut_line keys unique had bytes cut) [
  | inl open_line ↦ omega (arith, overlong.many, open_line.few)
  | inr first ↦ overlong_has_none bytes first.0 first.1 first.2 overlong first.3 first.4
]

pub overlong_isnt_cut : (kind : RequestKind) (bytes : List ℕ) → IsOverlong bytes → IsCutList kind bytes → ⊥
overlong_isnt_cut (Retrieval key unique) bytes overlong cut = cut
overlong_isnt_cut (Listing keys unique) bytes overlong cut = overlong_isnt_listing keys unique [] bytes overlong cut
overlong_isnt_cut Storage bytes overlong cut = cut
overlong_isnt_cut Deletion bytes overlong cut = cut
overlong_isnt_cut Counting bytes overlong cut = cut
overlong_isnt_cut Touching bytes overlong cut = cut
overlong_isnt_cut Probe bytes overlong cut = cut

-- where a listing isn't whole, the first line is no response
pub cut_is_no_line : (keys : List (List ℕ)) (unique : Bool) (had : List (List ℕ)) (bytes front rest : List ℕ) (line : Split) (r : Response)
    → IsCutListing keys unique had bytes → IsSplitLine front line → Says line r → bytes ≡ front ++ rest → ⊥
cut_is_no_line keys unique had bytes front rest line r cut is says e = elim (cut_line keys unique had bytes cut) [
  | inl open_line ↦ open_line_has_none bytes front line rest open_line is e
  | inr first ↦
      let same = line_is_one first.0 front first.1 line first.2 rest first.3 is (sym first.4 ∙ e) in
      let word : line.word ≡ codes "VALUE" = ap (λ (l : Split). l.word) (sym same.1) ∙ first.5 in
      value_says_nothing line.rest r (subst (λ (w : List ℕ). Says (record { word = w; rest = line.rest }) r) word says)
]

pub cut_list_is_no_line : (kind : RequestKind) (bytes front rest : List ℕ) (line : Split) (r : Response)
    → IsCutList kind bytes → IsSplitLine front line → Says line r → bytes ≡ front ++ rest → ⊥
cut_list_is_no_line (Retrieval key unique) bytes front rest line r cut is says e = cut
cut_list_is_no_line (Listing keys unique) bytes front rest line r cut is says e = cut_is_no_line keys unique [] bytes front rest line r cut is says e
cut_list_is_no_line Storage bytes front rest line r cut is says e = cut
cut_list_is_no_line Deletion bytes front rest line r cut is says e = cut
cut_list_is_no_line Counting bytes front rest line r cut is says e = cut
cut_list_is_no_line Touching bytes front rest line r cut is says e = cut
cut_list_is_no_line Probe bytes front rest line r cut is says e = cut

-- a value that isn't whole is no value's text
pub cut_text_is_no_text : (keys : List (List ℕ)) (unique : Bool) (had : List (List ℕ)) (bytes first rest : List ℕ) (v : Value)
    → IsCutText keys unique had bytes → IsValueText first v → bytes ≡ first ++ rest → ⊥
cut_text_is_no_text keys unique had bytes first rest v cut text e =
    let same = line_is_one cut.head text.head cut.line text.line cut.body (block v.data ++ rest) cut.is_line text.is_line (sym cut.whole ∙ e ∙ text_line first rest v text) in
    let heads = head_is_one text.line cut.key v.key cut.flags v.flags cut.size (length v.data) cut.cas v.unique (rw (sym same.1) cut.is_head) text.is_head in
    cut_data_has_none cut.size cut.body v.data rest cut.cut same.2 (sym heads.2)

-- where a listing isn't whole, no front of the bytes is one
pub cut_is_no_listing : (keys : List (List ℕ)) (unique : Bool) (had : List (List ℕ)) (bytes front rest : List ℕ) (values : List Value)
    → IsCutListing keys unique had bytes → IsListing front values → bytes ≡ front ++ rest → ⊥
cut_is_no_listing keys unique had bytes front rest values (in_line k u h b open_line) is e =
    let first = listing_line front values is in
    open_line_has_none bytes first.0 first.1 (first.2 ++ rest) open_line first.3
    (e ∙ ap (λ xs. xs ++ rest) first.4 ∙ append_assoc first.0 first.2 rest)
cut_is_no_listing keys unique had bytes front rest [] (in_value k u h b cut) is e =
    cut_is_no_line keys unique had bytes front rest is.line (response.Values None) (in_value keys unique had bytes cut) is.is_line is.says e
cut_is_no_listing keys unique had bytes front rest (v ∷ vs) (in_value k u h b cut) is e =
    cut_text_is_no_text keys unique had bytes is.0 (is.1 ++ rest) v cut is.3 (e ∙ ap (λ xs. xs ++ rest) is.2 ∙ append_assoc is.0 is.1 rest)
cut_is_no_listing keys unique had bytes front rest [] (after_value k u h b first more w whole text awaited cut) is e =
    text_is_no_end first front w more rest text is (sym whole ∙ e)
cut_is_no_listing keys unique had bytes front rest (v ∷ vs) (after_value k u h b first more w whole text awaited cut) is e =
    let same = same_text first is.0 more (is.1 ++ rest) w v text is.3 (sym whole ∙ e ∙ ap (λ xs. xs ++ rest) is.2 ∙ append_assoc is.0 is.1 rest) in
    cut_is_no_listing keys unique (had ++ w.key ∷ []) more is.1 rest vs cut is.4 same.2

pub cut_has_no_listing : (kind : RequestKind) (bytes front rest : List ℕ) (values : List Value) → IsCutList kind bytes
    → IsListing front values → bytes ≡ front ++ rest → ⊥
cut_has_no_listing (Retrieval key unique) bytes front rest values cut is e = cut
cut_has_no_listing (Listing keys unique) bytes front rest values cut is e = cut_is_no_listing keys unique [] bytes front rest values cut is e
cut_has_no_listing Storage bytes front rest values cut is e = cut
cut_has_no_listing Deletion bytes front rest values cut is e = cut
cut_has_no_listing Counting bytes front rest values cut is e = cut
cut_has_no_listing Touching bytes front rest values cut is e = cut
cut_has_no_listing Probe bytes front rest values cut is e = cut
