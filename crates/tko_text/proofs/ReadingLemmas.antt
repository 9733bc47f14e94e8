-- What is emitted, and when nothing is.
use Rattle.std.proofs.Common.{◌≡◌, ℕ, ◌+◌, ◌<◌, ◌≤◌, ◌≢◌, List, [], ◌∷◌, ◌++◌, length, get_or, take, drop, refl, ap, sym, ◌∙◌, subst, arith, Some, None, eq-eqb, eqb-true, length-take-le, get_or-take, append_assoc, take-append-drop, length-append}
use Rattle.std.proofs.lemmas.List.{drop_more, get_or_at, get_or_default}
use Rattle.memchr.specs.Find.{IsFirstByte, is_byte}
use Rattle.tko_text.specs.declared.fault.TextFault.TheVariants as fault
use Rattle.tko_text.specs.declared.item.Item.{Item}
use Rattle.tko_text.specs.declared.item.Item.TheVariants as item
use Rattle.tko_text.specs.Commands.{parsed}
use Rattle.tko_bytes.specs.Lines.{line_feed, content}
use Rattle.tko_text.specs.Limits.{line_limit}
use Rattle.tko_text.specs.Lines.{IsLine, IsEndedAt, IsBeyond}
use Rattle.tko_text.specs.Reading.{After, Next, Never, Reading, Completes, Decides, by_line, by_length, passed, Emits, NeedsMore}
use Rattle.tko_text.specs.States.{at}

-- a line and what follows it
pub line_parts : (bytes : List ℕ) (len : ℕ) → IsEndedAt bytes len
    → take len bytes ++ line_feed ∷ drop (len + 1) bytes ≡ bytes
line_parts bytes len line =
    sym (sym (take-append-drop len bytes)
    ∙ ap (λ xs. take len bytes ++ xs) (drop_more bytes len 0 line.fits ∙ ap (λ b. b ∷ drop (len + 1) bytes) line.ended))

-- the line of a request or a fault that is decided by it alone
pub Emits-line : (before rest : List ℕ) (emitted : Item) (after : After) → IsLine before
    → Completes (parsed (content before)) [] emitted after
    → Emits (at (before ++ line_feed ∷ rest)) emitted (passed after rest)
unfolding Emits
Emits-line before rest emitted after line completes = (
  before ++ line_feed ∷ [],
  rest,
  after,
  ap at (sym (append_assoc before (line_feed ∷ []) rest)),
  by_line before [] line refl completes,
  refl,
)

pub Emits-beyond : (bytes : List ℕ) → IsBeyond bytes
    → Emits (at bytes) (item.Fault fault.LineTooLong) (record { after = Never; unread = [] })
unfolding Emits
Emits-beyond bytes long = (
  take (line_limit + 1) bytes,
  drop (line_limit + 1) bytes,
  Never,
  ap at (sym (take-append-drop (line_limit + 1) bytes)),
  by_length long refl refl,
  refl,
)

-- the LF of a line in a longer text
get_or-line : (before following left : List ℕ)
    → get_or ((before ++ line_feed ∷ following) ++ left) (length before) 0 ≡ line_feed
get_or-line before following left =
    ap (λ xs. get_or xs (length before) 0) (append_assoc before (line_feed ∷ following) left)
    ∙ get_or_at before line_feed (following ++ left) 0 (length before) refl

-- nothing is decided by fewer bytes than are too many, without an LF
undecided : (bytes text left : List ℕ) (emitted : Item) (after : After) → bytes ≡ text ++ left
    → IsFirstByte (is_byte line_feed) bytes None → length bytes ≤ line_limit
    → Decides text emitted after → ⊥
undecided bytes text left emitted after parts none few (by_line before following line is completes) =
    let whole : bytes ≡ (before ++ line_feed ∷ following) ++ left = parts ∙ ap (λ xs. xs ++ left) is in
    none (length before) (omega arith)
    (omega (arith, ap length whole, length-append (before ++ line_feed ∷ following) left, length-append before (line_feed ∷ following)))
    (eq-eqb _ line_feed (ap (λ xs. get_or xs (length before) 0) whole ∙ get_or-line before following left))
undecided bytes text left emitted after parts none few (by_length long emitted_is after_is) =
    absurd (omega (arith, ap length parts, length-append text left, long.beyond))

pub NeedsMore-short : (bytes : List ℕ) → IsFirstByte (is_byte line_feed) bytes None
    → length bytes ≤ line_limit → NeedsMore (at bytes)
unfolding NeedsMore Emits
NeedsMore-short bytes none few emitted to (text, left, after, from, decides, goes) =
    undecided bytes text left emitted after (ap (λ (r : Reading). r.unread) from) none few decides

pub NeedsMore-never : (bytes : List ℕ) → NeedsMore (record { after = Never; unread = bytes })
unfolding NeedsMore Emits
NeedsMore-never bytes emitted to (text, left, after, from, decides, goes) =
    let never : Never ≡ Next = ap (λ (r : Reading). r.after) from in cc

-- a reading by its parts
at_next : (from : Reading) → from.after ≡ Next → at from.unread ≡ from
at_next from next = ap (λ after. record { after = after; unread = from.unread }) (sym next)

pub Emits-failed : (from : Reading) (rest : List ℕ) → from.after ≡ Next → rest ≡ [] → IsBeyond from.unread
    → Emits from (item.Fault fault.LineTooLong) (record { after = Never; unread = rest })
Emits-failed from rest next none long =
    subst (λ bytes. Emits from (item.Fault fault.LineTooLong) (record { after = Never; unread = bytes })) (sym none)
    (subst (λ r. Emits r (item.Fault fault.LineTooLong) (record { after = Never; unread = [] })) (at_next from next)
    (Emits-beyond from.unread long))

pub NeedsMore-waiting : (from : Reading) → from.after ≡ Next
    → IsFirstByte (is_byte line_feed) from.unread None → length from.unread ≤ line_limit → NeedsMore from
NeedsMore-waiting from next none few =
    subst (λ r. NeedsMore r) (at_next from next) (NeedsMore-short from.unread none few)

pub NeedsMore-failed : (from : Reading) → from.after ≡ Never → NeedsMore from
NeedsMore-failed from never =
    let is : record { after = Never; unread = from.unread } ≡ from =
    ap (λ after. record { after = after; unread = from.unread }) (sym never) in
    subst (λ r. NeedsMore r) is (NeedsMore-never from.unread)

-- the first LF ends a line, where it comes soon enough
pub IsEndedAt-found : (bytes : List ℕ) (len : ℕ) → IsFirstByte (is_byte line_feed) bytes (Some len)
    → len ≤ line_limit → IsEndedAt bytes len
IsEndedAt-found bytes len found few =
    let size : length (take len bytes) ≡ len = length-take-le len bytes (omega (arith, found.0.high)) in
    record {
      line = record {
        unended = λ k d h ended.
            let low : k < len = omega arith in
            found.0.before k (omega arith) low
            (eq-eqb _ line_feed (get_or_default bytes k 0 d (omega (arith, found.0.high))
            ∙ sym (get_or-take len bytes k d low) ∙ ended));
        within = omega arith;
      };
      fits = found.0.high;
      ended = eqb-true _ line_feed found.1;
    }

beyond : (bytes : List ℕ) → line_limit + 1 ≤ length bytes
    → ((k : ℕ) → k < line_limit + 1 → get_or bytes k 0 ≢ line_feed) → IsBeyond bytes
beyond bytes many none =
    let size : length (take (line_limit + 1) bytes) ≡ line_limit + 1 = length-take-le (line_limit + 1) bytes many in
    record {
      unended = λ k d h ended.
          let low : k < line_limit + 1 = omega arith in
          none k low (get_or_default bytes k 0 d (omega arith) ∙ sym (get_or-take (line_limit + 1) bytes k d low) ∙ ended);
      beyond = size;
    }

-- an LF that comes too late, or none at all
pub IsBeyond-late : (bytes : List ℕ) (len : ℕ) → IsFirstByte (is_byte line_feed) bytes (Some len)
    → line_limit < len → IsBeyond bytes
IsBeyond-late bytes len found late =
    beyond bytes (omega (arith, found.0.high))
    (λ k h ended. found.0.before k (omega arith) (omega arith) (eq-eqb _ line_feed ended))

pub IsBeyond-none : (bytes : List ℕ) → IsFirstByte (is_byte line_feed) bytes None
    → line_limit < length bytes → IsBeyond bytes
IsBeyond-none bytes none many =
    beyond bytes many (λ k h ended. none k (omega arith) (omega arith) (eq-eqb _ line_feed ended))
