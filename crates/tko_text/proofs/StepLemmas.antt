-- The steps of a reader, by what its functions found.
use Rattle.std.proofs.Common.{◌≡◌, ℕ, ◌+◌, ◌-◌, ◌≢◌, List, [], ◌∷◌, ◌++◌, Option, Some, None, length, take, drop, refl, ap, sym, ◌∙◌, subst, arith, append_assoc, drop-drop}
use Rattle.std.proofs.lemmas.List.{take_rest}
use Rattle.tko_bytes.specs.Lines.{line_feed, content}
use Rattle.tko_text.specs.declared.data.DataEnd.TheVariants as end
use Rattle.tko_text.specs.declared.fault.TextFault.{TextFault}
use Rattle.tko_text.specs.declared.fault.TextFault.TheVariants as fault
use Rattle.tko_text.specs.declared.item.Item.TheVariants as item
use Rattle.tko_text.specs.declared.line.ParsedLine.{ParsedLine}
use Rattle.tko_text.specs.declared.line.ParsedLine.TheVariants as line
use Rattle.tko_text.specs.declared.pending.Pending.{Pending}
use Rattle.tko_text.specs.declared.request.Request.{Request}
use Rattle.tko_text.specs.declared.state.ReaderState.{ReaderState}
use Rattle.tko_text.specs.declared.state.ReaderState.TheVariants as state
use Rattle.tko_text.specs.Commands.{After, Next, Pass, PassLine, Never, Asks, AwaitsData, Refused, parsed}
use Rattle.tko_text.specs.DataEnds.{EndsData}
use Rattle.tko_text.specs.Lines.{IsEndedAt}
use Rattle.tko_text.specs.Parsed.{IsWithinLimits, after_data, meaning, request_with}
use Rattle.tko_text.specs.Reading.{Reading, Completes, passed, Emits, NeedsMore}
use Rattle.tko_text.specs.States.{IsPending, Steps, at, reading_of}
use Rattle.tko_text.proofs.DataLemmas.{Emits-whole, Emits-wrong_line, Emits-wrong, NeedsMore-data}
use Rattle.tko_text.proofs.ReadingLemmas.{Emits-line, line_parts}

-- a request or a fault that a line decides
steps_asks : (bytes : List ℕ) (len : ℕ) (asked : Request) → IsEndedAt bytes len → parsed (content (take len bytes)) ≡ Asks asked
    → Steps (at bytes) (Some (item.Request asked)) (at (drop (len + 1) bytes))
steps_asks bytes len asked ended is = (
  subst (λ xs. Emits (at xs) (item.Request asked) (at (drop (len + 1) bytes))) (line_parts bytes len ended)
      (Emits-line (take len bytes) (drop (len + 1) bytes) (item.Request asked) Next ended.line
      (subst (λ p. Completes p [] (item.Request asked) Next) (sym is) (refl, refl, refl))),
  λ e. cc,
)

steps_refused : (bytes : List ℕ) (len : ℕ) (why : TextFault) (after : After) → IsEndedAt bytes len
    → parsed (content (take len bytes)) ≡ Refused why after → why ≢ fault.LineTooLong
    → Steps (at bytes) (Some (item.Fault why)) (passed after (drop (len + 1) bytes))
steps_refused bytes len why after ended is short = (
  subst (λ xs. Emits (at xs) (item.Fault why) (passed after (drop (len + 1) bytes))) (line_parts bytes len ended)
      (Emits-line (take len bytes) (drop (len + 1) bytes) (item.Fault why) after ended.line
      (subst (λ p. Completes p [] (item.Fault why) after) (sym is) (refl, refl, refl))),
  λ e. let same : why ≡ fault.LineTooLong = cc in absurd (short same),
)

line_is : (bytes held : List ℕ) (len : ℕ) (found : ParsedLine) → held ≡ content (take len bytes) → parsed held ≡ meaning found
    → parsed (content (take len bytes)) ≡ meaning found
line_is bytes held len found held_is is = ap parsed (sym held_is) ∙ is

pub read_asks : (bytes held left : List ℕ) (len : ℕ) (found : ParsedLine) (asked : Request) (now : ReaderState)
    → IsEndedAt bytes len → held ≡ content (take len bytes) → parsed held ≡ meaning found → found ≡ line.Asks asked
    → now ≡ state.Line → left ≡ drop (len + 1) bytes
    → Steps (at bytes) (Some (item.Request asked)) (reading_of now left)
read_asks bytes held left len found asked now ended held_is is asks awaits left_is =
    subst (λ s. Steps (at bytes) (Some (item.Request asked)) (reading_of s left)) (sym awaits)
    (subst (λ b. Steps (at bytes) (Some (item.Request asked)) (at b)) (sym left_is)
    (steps_asks bytes len asked ended (line_is bytes held len found held_is is ∙ ap meaning asks)))

pub read_refused : (bytes held left : List ℕ) (len : ℕ) (found : ParsedLine) (why : TextFault) (size : Option ℕ) (to : Reading)
    → IsEndedAt bytes len → held ≡ content (take len bytes) → parsed held ≡ meaning found → found ≡ line.Refused why size
    → IsWithinLimits found → left ≡ drop (len + 1) bytes → to ≡ passed (after_data size) left
    → Steps (at bytes) (Some (item.Fault why)) to
read_refused bytes held left len found why size to ended held_is is refuses limits left_is to_is =
    subst (λ t. Steps (at bytes) (Some (item.Fault why)) t) (sym (to_is ∙ ap (λ b. passed (after_data size) b) left_is))
    (steps_refused bytes len why (after_data size) ended (line_is bytes held len found held_is is ∙ ap meaning refuses)
    (subst IsWithinLimits refuses limits))

-- data that are whole, wrong or not all there
module _ (bytes : List ℕ) (len size : ℕ) (asked : List ℕ → Request) (ended : IsEndedAt bytes len)
    (is : parsed (content (take len bytes)) ≡ AwaitsData size asked) where
  pub data_open : EndsData (drop (len + 1) bytes) size end.Open → NeedsMore (at bytes)
  data_open found =
      subst (λ xs. NeedsMore (at xs)) (line_parts bytes len ended)
      (NeedsMore-data (take len bytes) (drop (len + 1) bytes) size asked ended.line is found)

  pub data_whole : (it : Request) (left : List ℕ) → EndsData (drop (len + 1) bytes) size end.Whole
      → it ≡ asked (take size (drop (len + 1) bytes)) → left ≡ drop (size + 1 + 1) (drop (len + 1) bytes)
      → Steps (at bytes) (Some (item.Request it)) (at left)
  data_whole it left found it_is left_is = (
    subst (λ r. Emits (at bytes) (item.Request r) (at left)) (sym it_is)
        (subst (λ b. Emits (at bytes) (item.Request (asked (take size (drop (len + 1) bytes)))) (at b)) (sym left_is)
        (subst (λ xs. Emits (at xs) (item.Request (asked (take size (drop (len + 1) bytes)))) (at (drop (size + 1 + 1) (drop (len + 1) bytes)))) (line_parts bytes len ended)
        (Emits-whole (take len bytes) (drop (len + 1) bytes) size asked ended.line is found))),
    λ e. cc,
  )

  pub data_wrong_line : (count : ℕ) (left : List ℕ) → EndsData (drop (len + 1) bytes) size (end.WrongLine count)
      → left ≡ drop count (drop (len + 1) bytes) → Steps (at bytes) (Some (item.Fault fault.BadChunk)) (at left)
  data_wrong_line count left found left_is = (
    subst (λ b. Emits (at bytes) (item.Fault fault.BadChunk) (at b)) (sym left_is)
        (subst (λ xs. Emits (at xs) (item.Fault fault.BadChunk) (at (drop count (drop (len + 1) bytes)))) (line_parts bytes len ended)
        (Emits-wrong_line (take len bytes) (drop (len + 1) bytes) size asked ended.line is count found)),
    λ e. cc,
  )

  pub data_wrong : (count : ℕ) (left : List ℕ) (to : Reading) → EndsData (drop (len + 1) bytes) size (end.Wrong count)
      → left ≡ drop count (drop (len + 1) bytes) → to ≡ passed PassLine left
      → Steps (at bytes) (Some (item.Fault fault.BadChunk)) to
  data_wrong count left to found left_is to_is = (
    subst (λ t. Emits (at bytes) (item.Fault fault.BadChunk) t) (sym (to_is ∙ ap (λ b. passed PassLine b) left_is))
        (subst (λ xs. Emits (at xs) (item.Fault fault.BadChunk) (passed PassLine (drop count (drop (len + 1) bytes)))) (line_parts bytes len ended)
        (Emits-wrong (take len bytes) (drop (len + 1) bytes) size asked ended.line is count found)),
    λ e. cc,
  )

-- the reading of a state that awaits a line
pub reading_line : (now : ReaderState) (left : List ℕ) → now ≡ state.Line → at left ≡ reading_of now left
reading_line now left awaits = ap (λ s. reading_of s left) (sym awaits)

-- what is left after a line and more
pub left_after : (bytes : List ℕ) (len more n : ℕ) → n ≡ len + 1 + more → drop n bytes ≡ drop more (drop (len + 1) bytes)
left_after bytes len more n is =
    let sum : n ≡ (len + 1) + more = omega arith in ap (λ k. drop k bytes) sum ∙ sym (drop-drop more (len + 1) bytes)

-- the bytes of a pending request
pending_bytes : (p : Pending) → (is : IsPending p) → is.before ++ line_feed ∷ p.data.items ≡ p.line.items ++ p.data.items
pending_bytes p is = sym (ap (λ xs. xs ++ p.data.items) is.line_is ∙ append_assoc is.before (line_feed ∷ []) p.data.items)

pub pending_open : (p : Pending) (u v : List ℕ) → IsPending p → EndsData p.data.items p.header.size end.Open
    → Steps (reading_of (state.Data p) u) None (reading_of (state.Data p) v)
pending_open p u v is found = (
  subst (λ xs. NeedsMore (at xs)) (pending_bytes p is)
      (NeedsMore-data is.before p.data.items p.header.size (request_with p.header) is.is_line is.header_is.parsed_is found),
  refl,
)

pub pending_whole : (p : Pending) (u left : List ℕ) → IsPending p → EndsData p.data.items p.header.size end.Whole
    → left ≡ drop (p.header.size + 1 + 1) p.data.items
    → Steps (reading_of (state.Data p) u) (Some (item.Request (request_with p.header (take p.header.size p.data.items)))) (at left)
pending_whole p u left is found left_is = (
  subst (λ b. Emits (at (p.line.items ++ p.data.items)) (item.Request (request_with p.header (take p.header.size p.data.items))) (at b)) (sym left_is)
      (subst (λ xs. Emits (at xs) (item.Request (request_with p.header (take p.header.size p.data.items))) (at (drop (p.header.size + 1 + 1) p.data.items))) (pending_bytes p is)
      (Emits-whole is.before p.data.items p.header.size (request_with p.header) is.is_line is.header_is.parsed_is found)),
  λ e. cc,
)

pub pending_wrong_line : (p : Pending) (u left : List ℕ) (count : ℕ) → IsPending p → EndsData p.data.items p.header.size (end.WrongLine count)
    → left ≡ drop count p.data.items → Steps (reading_of (state.Data p) u) (Some (item.Fault fault.BadChunk)) (at left)
pending_wrong_line p u left count is found left_is = (
  subst (λ b. Emits (at (p.line.items ++ p.data.items)) (item.Fault fault.BadChunk) (at b)) (sym left_is)
      (subst (λ xs. Emits (at xs) (item.Fault fault.BadChunk) (at (drop count p.data.items))) (pending_bytes p is)
      (Emits-wrong_line is.before p.data.items p.header.size (request_with p.header) is.is_line is.header_is.parsed_is count found)),
  λ e. cc,
)

pub pending_wrong : (p : Pending) (u left : List ℕ) (count : ℕ) (to : Reading) → IsPending p → EndsData p.data.items p.header.size (end.Wrong count)
    → left ≡ drop count p.data.items → to ≡ passed PassLine left → Steps (reading_of (state.Data p) u) (Some (item.Fault fault.BadChunk)) to
pending_wrong p u left count to is found left_is to_is = (
  subst (λ t. Emits (at (p.line.items ++ p.data.items)) (item.Fault fault.BadChunk) t) (sym (to_is ∙ ap (λ b. passed PassLine b) left_is))
      (subst (λ xs. Emits (at xs) (item.Fault fault.BadChunk) (passed PassLine (drop count p.data.items))) (pending_bytes p is)
      (Emits-wrong is.before p.data.items p.header.size (request_with p.header) is.is_line is.header_is.parsed_is count found)),
  λ e. cc,
)

-- what follows so many bytes, put into an empty buffer
pub pushed : (old new held items : List ℕ) (n m : ℕ) → new ≡ old ++ take (length held - n) (drop n held) → old ≡ [] → held ≡ items → n ≡ m
    → new ≡ drop m items
pushed old new held items n m e nil same places =
    e ∙ ap (λ b. b ++ take (length held - n) (drop n held)) nil ∙ take_rest held n ∙ ap (λ b. drop n b) same ∙ ap (λ k. drop k items) places

needs_more : (from : Reading) → from.after ≢ Next → NeedsMore from
unfolding NeedsMore Emits
needs_more from other emitted to (text, left, after, is, decides, goes) = other (ap (λ (r : Reading). r.after) is)

-- where bytes are skipped, or nothing is read, no item comes
pub skips_bytes : (from : Reading) (now : ReaderState) (u : List ℕ) (n : ℕ) → reading_of now u ≡ from → now ≡ state.Skip n → NeedsMore from
skips_bytes from now u n view is =
    needs_more from (λ next. let e : Pass n ≡ Next = sym (ap (λ s. (reading_of s u).after) is) ∙ ap (λ (r : Reading). r.after) view ∙ next in cc)

pub skips_line : (from : Reading) (now : ReaderState) (u : List ℕ) → reading_of now u ≡ from → now ≡ state.SkipLine → NeedsMore from
skips_line from now u view is =
    needs_more from (λ next. let e : PassLine ≡ Next = sym (ap (λ s. (reading_of s u).after) is) ∙ ap (λ (r : Reading). r.after) view ∙ next in cc)

pub reads_nothing : (from : Reading) (now : ReaderState) (u : List ℕ) → reading_of now u ≡ from → now ≡ state.Never → NeedsMore from
reads_nothing from now u view is =
    needs_more from (λ next. let e : Never ≡ Next = sym (ap (λ s. (reading_of s u).after) is) ∙ ap (λ (r : Reading). r.after) view ∙ next in cc)
