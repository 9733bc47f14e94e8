-- Why the rest of a listing isn't whole, or why there is none.
use Rattle.std.proofs.Common.{◌≡◌, ℕ, List, [], ◌∷◌, ◌++◌, length, Bool, ap, sym, ◌∙◌, subst, inl, inr, Option, None, append_assoc}
use Rattle.std.specs.Prelude.{codes}
use Rattle.tko_text.specs.declared.response.Response.TheVariants as response
use Rattle.tko_text.specs.declared.response.body.Value.{Value}
use Rattle.tko_text.specs.declared.response.fault.ReadFault.{ReadFault}
use Rattle.tko_text.specs.declared.response.fault.ReadFault.TheVariants as fault
use Rattle.tko_text.specs.ListingFaults.{IsOtherLine, ListFault, NoListing, NotAwaited}
use Rattle.tko_text.specs.ResponseFaults.{DataFault, EndFault, LineFault}
use Rattle.tko_text.specs.ResponseLines.{Split, SplitsLine}
use Rattle.tko_text.specs.ResponseReads.IsCutListing.{in_line, in_value, after_value}
use Rattle.tko_text.specs.Responses.{AreAwaited, IsAnswerLine, IsHead, IsValueAwaited, IsValueText, block}
use Rattle.tko_text.specs.ResponseReads.{IsCutData, IsCutListing}
use Rattle.tko_text.proofs.ListingTexts.{cut_is_no_listing, cut_line, cut_text_is_no_text, listing_line, overlong_isnt_listing, same_text, text_is_no_end, text_line}
use Rattle.tko_text.proofs.ResponseBodyLemmas.{end_fault_has_none, end_fault_isnt_open, head_is_one, wrong_data_has_none, wrong_data_isnt_cut}
use Rattle.tko_text.proofs.ResponseLineLemmas.{line_is_one, open_line_has_none, overlong_has_none}

module _ (keys : List (List ℕ)) (unique : Bool) (had : List (List ℕ)) (bytes : List ℕ) where
  -- what isn't whole is no listing
  pub list_short : IsCutListing keys unique had bytes → ListFault fault.Short keys unique had bytes
  list_short cut = (cut, λ front rest values e is awaited. cut_is_no_listing keys unique had bytes front rest values cut is e)

  -- there is no first line yet, or there will never be one
  pub list_line_fault : (f : ReadFault) → LineFault f bytes → ListFault f keys unique had bytes
  list_line_fault fault.Short open_line = list_short (in_line keys unique had bytes open_line)
  list_line_fault fault.Unreadable overlong = (
    overlong_isnt_listing keys unique had bytes overlong,
    λ front rest values e is awaited.
        let first = listing_line front values is in
        overlong_has_none bytes first.0 first.1 (first.2 ++ rest) overlong first.3
        (e ∙ ap (λ xs. xs ++ rest) first.4 ∙ append_assoc first.0 first.2 rest),
  )
  list_line_fault fault.Memory none = absurd none

  -- the first line announces no value, and is not the line `END`
  other_isnt_cut : IsOtherLine bytes → EndFault fault.Unreadable bytes → IsCutListing keys unique had bytes → ⊥
  other_isnt_cut other wrong cut = elim (cut_line keys unique had bytes cut) [
    | inl open_line ↦ end_fault_isnt_open bytes wrong open_line
    | inr first ↦
        let same = line_is_one other.2.0 first.0 other.0 first.1 other.1 first.2 other.2.1 first.3 (sym other.2.2 ∙ first.4) in
        other.3 (ap (λ (l : Split). l.word) same.1 ∙ first.5)
  ]

  other_is_no_listing : (f : ReadFault) → IsOtherLine bytes → EndFault f bytes → NoListing keys unique had bytes
  other_is_no_listing f other wrong front rest [] e is awaited = end_fault_has_none f bytes rest wrong (front, is, e)
  other_is_no_listing f other wrong front rest (v ∷ vs) e is awaited =
      let whole : bytes ≡ is.3.head ++ (block v.data ++ (is.1 ++ rest)) =
      e ∙ ap (λ xs. xs ++ rest) is.2 ∙ append_assoc is.0 is.1 rest ∙ text_line is.0 (is.1 ++ rest) v is.3 in
      let same = line_is_one other.2.0 is.3.head other.0 is.3.line other.1 (block v.data ++ (is.1 ++ rest)) other.2.1 is.3.is_line (sym other.2.2 ∙ whole) in
      other.3 (ap (λ (l : Split). l.word) same.1 ∙ is.3.is_head.word_is)

  pub list_end_fault : (f : ReadFault) → IsOtherLine bytes → EndFault f bytes → ListFault f keys unique had bytes
  list_end_fault fault.Short other open_line = list_short (in_line keys unique had bytes open_line)
  list_end_fault fault.Unreadable other wrong = (other_isnt_cut other wrong, other_is_no_listing fault.Unreadable other wrong)
  list_end_fault fault.Memory other none = absurd none

-- a listing that the first line opens, which announces a value: its first value
module _ (keys : List (List ℕ)) (unique : Bool) (had : List (List ℕ)) (bytes : List ℕ) (line : Split) (body : List ℕ)
    (split : SplitsLine bytes line body) (word : line.word ≡ codes "VALUE") where
  end_isnt_here : (front rest : List ℕ) → IsAnswerLine front (response.Values None) → bytes ≡ front ++ rest → ⊥
  end_isnt_here front rest end e =
      let same = line_is_one split.0 front line end.line body rest split.1 end.is_line (sym split.2 ∙ e) in
      let words : codes "VALUE" ≡ codes "END" = sym word ∙ ap (λ (l : Split). l.word) same.1 ∙ end.says.0 in
      absurd (cc)

  first_text : (front rest : List ℕ) (v : Value) → IsValueText front v → bytes ≡ front ++ rest
      → IsHead line v.key v.flags (length v.data) v.unique × (body ≡ block v.data ++ rest)
  first_text front rest v text e =
      let same = line_is_one split.0 text.head line text.line body (block v.data ++ rest) split.1 text.is_line (sym split.2 ∙ e ∙ text_line front rest v text) in
      (subst (λ (l : Split). IsHead l v.key v.flags (length v.data) v.unique) (sym same.1) text.is_head, same.2)

  -- no value may begin here
  unawaited_isnt_cut : NotAwaited keys unique had line → IsCutListing keys unique had bytes → ⊥
  unawaited_isnt_cut none (in_line k u h b open_line) = open_line_has_none bytes split.0 line body open_line split.1 split.2
  unawaited_isnt_cut none (in_value k u h b cut) =
      let same = line_is_one split.0 cut.head line cut.line body cut.body split.1 cut.is_line (sym split.2 ∙ cut.whole) in
      none cut.key cut.flags cut.size cut.cas (subst (λ (l : Split). IsHead l cut.key cut.flags cut.size cut.cas) (sym same.1) cut.is_head) cut.awaited
  unawaited_isnt_cut none (after_value k u h b first rest v e text awaited cut) =
      none v.key v.flags (length v.data) v.unique (first_text first rest v text e).0 awaited

  unawaited_is_no_listing : NotAwaited keys unique had line → NoListing keys unique had bytes
  unawaited_is_no_listing none front rest [] e is awaited = end_isnt_here front rest is e
  unawaited_is_no_listing none front rest (v ∷ vs) e is awaited =
      none v.key v.flags (length v.data) v.unique
      (first_text is.0 (is.1 ++ rest) v is.3 (e ∙ ap (λ xs. xs ++ rest) is.2 ∙ append_assoc is.0 is.1 rest)).0 awaited.0

  pub list_unawaited : NotAwaited keys unique had line → ListFault fault.Unreadable keys unique had bytes
  list_unawaited none = (unawaited_isnt_cut none, unawaited_is_no_listing none)

  module _ (key : List ℕ) (flags size : ℕ) (cas : Option ℕ) (head : IsHead line key flags size cas) (asked : IsValueAwaited keys unique had key cas) where
    text_size : (v : Value) → IsHead line v.key v.flags (length v.data) v.unique → length v.data ≡ size
    text_size v is = sym (head_is_one line key v.key flags v.flags size (length v.data) cas v.unique head is).2

    -- what is wrong with the data of the value that the line announces
    wrong_isnt_cut : DataFault fault.Unreadable size body → IsCutListing keys unique had bytes → ⊥
    wrong_isnt_cut wrong (in_line k u h b open_line) = open_line_has_none bytes split.0 line body open_line split.1 split.2
    wrong_isnt_cut wrong (in_value k u h b cut) =
        let same = line_is_one split.0 cut.head line cut.line body cut.body split.1 cut.is_line (sym split.2 ∙ cut.whole) in
        let here : IsHead line cut.key cut.flags cut.size cut.cas = subst (λ (l : Split). IsHead l cut.key cut.flags cut.size cut.cas) (sym same.1) cut.is_head in
        let sizes : cut.size ≡ size = sym (head_is_one line key cut.key flags cut.flags size cut.size cas cut.cas head here).2 in
        wrong_data_isnt_cut size body wrong
        (subst (λ (n : ℕ). IsCutData n body) sizes (subst (λ (xs : List ℕ). IsCutData cut.size xs) (sym same.2) cut.cut))
    wrong_isnt_cut wrong (after_value k u h b first rest v e text awaited cut) =
        let here = first_text first rest v text e in
        wrong_data_has_none size body v.data rest wrong here.1 (text_size v here.0)

    wrong_is_no_listing : DataFault fault.Unreadable size body → NoListing keys unique had bytes
    wrong_is_no_listing wrong front rest [] e is awaited = end_isnt_here front rest is e
    wrong_is_no_listing wrong front rest (v ∷ vs) e is awaited =
        let here = first_text is.0 (is.1 ++ rest) v is.3 (e ∙ ap (λ xs. xs ++ rest) is.2 ∙ append_assoc is.0 is.1 rest) in
        wrong_data_has_none size body v.data (is.1 ++ rest) wrong here.1 (text_size v here.0)

    pub list_data_fault : (f : ReadFault) → DataFault f size body → ListFault f keys unique had bytes
    list_data_fault fault.Short cut =
        list_short keys unique had bytes
        (in_value keys unique had bytes
        (record {
          head = split.0;
          line = line;
          body = body;
          key = key;
          flags = flags;
          size = size;
          cas = cas;
          whole = split.2;
          is_line = split.1;
          is_head = head;
          awaited = asked;
          cut = cut;
        }))
    list_data_fault fault.Unreadable wrong = (wrong_isnt_cut wrong, wrong_is_no_listing wrong)
    list_data_fault fault.Memory none = absurd none

-- a value that may be here, whose text is whole: the fault of what follows it is that of all
module _ (keys : List (List ℕ)) (unique : Bool) (had : List (List ℕ)) (bytes first rest : List ℕ) (v : Value) (whole : bytes ≡ first ++ rest)
    (text : IsValueText first v) (asked : IsValueAwaited keys unique had v.key v.unique) where
  none_after : NoListing keys unique (had ++ v.key ∷ []) rest → NoListing keys unique had bytes
  none_after none front more [] e is awaited = text_is_no_end first front v rest more text is (sym whole ∙ e)
  none_after none front more (w ∷ ws) e is awaited =
      let same = same_text first is.0 rest (is.1 ++ more) v w text is.3 (sym whole ∙ e ∙ ap (λ xs. xs ++ more) is.2 ∙ append_assoc is.0 is.1 more) in
      none is.1 more ws same.2 is.4 (subst (λ (u : Value). AreAwaited keys unique (had ++ u.key ∷ []) ws) (sym same.1) awaited.1)

  uncut_after : ¬ (IsCutListing keys unique (had ++ v.key ∷ []) rest) → IsCutListing keys unique had bytes → ⊥
  uncut_after none (in_line k u h b open_line) =
      open_line_has_none bytes text.head text.line (block v.data ++ rest) open_line text.is_line (whole ∙ text_line first rest v text)
  uncut_after none (in_value k u h b cut) = cut_text_is_no_text keys unique had bytes first rest v cut text whole
  uncut_after none (after_value k u h b front more w e other awaited cut) =
      let same = same_text first front rest more v w text other (sym whole ∙ e) in
      none (subst (λ (xs : List ℕ). IsCutListing keys unique (had ++ v.key ∷ []) xs) (sym same.2)
      (subst (λ (u : Value). IsCutListing keys unique (had ++ u.key ∷ []) more) (sym same.1) cut))

  pub list_fault_after : (f : ReadFault) → ListFault f keys unique (had ++ v.key ∷ []) rest → ListFault f keys unique had bytes
  list_fault_after fault.Short wrong =
      list_short keys unique had bytes (after_value keys unique had bytes first rest v whole text asked wrong.0)
  list_fault_after fault.Unreadable wrong = (uncut_after wrong.0, none_after wrong.1)
  list_fault_after fault.Memory wrong = tt
