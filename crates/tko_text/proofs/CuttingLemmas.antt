-- Bytes that come later change nothing of what is emitted, and what bytes tell is emitted in one way.
use Rattle.std.proofs.Common.{◌≡◌, ℕ, ◌+◌, ◌-◌, ◌<◌, ◌≤◌, ◌≢◌, true, false, cond, eqb, List, [], ◌∷◌, ◌++◌, length, get_or, drop, refl, ap, sym, ◌∙◌, subst, inl, inr, arith, append_assoc, length-append, drop-drop, drop_at, le-leb}
use Rattle.std.proofs.lemmas.Bool.{cond-true, cond-false, lt-leb, cases_lt}
use Rattle.std.proofs.lemmas.List.{append_cancel_left, drop-append-le, get_or_append_left, get_or_at}
use Rattle.std.proofs.lemmas.List.Elements.{All-tail}
use Rattle.tko_text.specs.declared.item.Item.{Item}
use Rattle.tko_text.specs.declared.item.Item.TheVariants as item
use Rattle.tko_text.specs.Commands.{ParsedLine, Asks, AwaitsData, Refused, parsed}
use Rattle.tko_bytes.specs.Lines.{line_feed, carriage_return, crlf, HasNoEnd, content}
use Rattle.tko_text.specs.Lines.{IsLine, IsTooLong}
use Rattle.tko_text.specs.Reading.{After, Next, Pass, PassLine, Never, Reading, after_wrong, IsWrongEnd, Completes, Decides, by_line, by_length, passed, fed, reading_start, Emits, NeedsMore, EmitsEach, FeedingKeeps, OneReading}

passed-enough : (n : ℕ) (xs : List ℕ) → n ≤ length xs
    → passed (Pass n) xs ≡ record { after = Next; unread = drop n xs }
passed-enough n xs h = cond-true _ _ _ (le-leb n (length xs) h)

passed-fewer : (n : ℕ) (xs : List ℕ) → length xs < n
    → passed (Pass n) xs ≡ record { after = Pass (n - length xs); unread = [] }
passed-fewer n xs h = cond-false _ _ _ (lt-leb n (length xs) h)

drop-past : (n : ℕ) (xs ys : List ℕ) → length xs ≤ n → drop (n - length xs) ys ≡ drop n (xs ++ ys)
drop-past n xs ys h =
    let parts : length xs + (n - length xs) ≡ n = omega arith in
    sym (ap (λ m. drop m (xs ++ ys)) (sym parts) ∙ sym (drop-drop (n - length xs) (length xs) (xs ++ ys))
    ∙ ap (λ zs. drop (n - length xs) zs) (drop_at xs ys (length xs) refl))

left_of : (n : ℕ) (xs ys : List ℕ) → n - length xs - length ys ≡ n - length (xs ++ ys)
left_of n xs ys = let all = length-append xs ys in omega arith

-- what fewer bytes than that left to pass over is passed over with the next ones
passed-rest : (n : ℕ) (xs ys : List ℕ) → length xs < n
    → passed (Pass (n - length xs)) ys ≡ passed (Pass n) (xs ++ ys)
passed-rest n xs ys h =
    let all = length-append xs ys in
    elim (cases_lt (length ys) (n - length xs)) [
      | inl fewer ↦
          passed-fewer (n - length xs) ys fewer
          ∙ ap (λ m. record { after = Pass m; unread = [] }) (left_of n xs ys)
          ∙ sym (passed-fewer n (xs ++ ys) (omega arith))
      | inr enough ↦
          passed-enough (n - length xs) ys enough
          ∙ ap (λ zs. record { after = Next; unread = zs }) (drop-past n xs ys (omega arith))
          ∙ sym (passed-enough n (xs ++ ys) (omega arith))
    ]

-- what is passed over in two pieces is passed over at once
pub passed-append : (after : After) (xs ys : List ℕ) → fed (passed after xs) ys ≡ passed after (xs ++ ys)
passed-append Next xs ys = refl
passed-append (Pass n) xs ys = elim (cases_lt (length xs) n) [
  | inl fewer ↦ ap (λ r. fed r ys) (passed-fewer n xs fewer) ∙ passed-rest n xs ys fewer
  | inr enough ↦
      ap (λ r. fed r ys) (passed-enough n xs enough)
      ∙ ap (λ zs. record { after = Next; unread = zs }) (sym (drop-append-le n xs ys enough))
      ∙ sym (passed-enough n (xs ++ ys) (omega (arith, length-append xs ys)))
]
passed-append PassLine [] ys = refl
passed-append PassLine (b ∷ xs) ys =
    elim (eqb b line_feed)
    as (λ t. fed (cond t (record { after = Next; unread = xs }) (passed PassLine xs)) ys
    ≡ cond t (record { after = Next; unread = xs ++ ys }) (passed PassLine (xs ++ ys)))
    [ true ↦ refl | false ↦ passed-append PassLine xs ys ]
passed-append Never xs ys = refl

-- two pieces are one
pub fed-fed : (from : Reading) (xs ys : List ℕ) → fed (fed from xs) ys ≡ fed from (xs ++ ys)
fed-fed from xs ys =
    passed-append from.after (from.unread ++ xs) ys
    ∙ ap (λ bytes. passed from.after bytes) (append_assoc from.unread xs ys)

-- feeding commutes with telling
pub Emits-fed : (from : Reading) (emitted : Item) (to : Reading) (piece : List ℕ)
    → Emits from emitted to → Emits (fed from piece) emitted (fed to piece)
unfolding Emits
Emits-fed from emitted to piece (text, left, after, is, decides, goes) = (
  text,
  left ++ piece,
  after,
  ap (λ r. fed r piece) is
      ∙ ap (λ bytes. record { after = Next; unread = bytes }) (append_assoc text left piece),
  decides,
  ap (λ r. fed r piece) goes ∙ passed-append after left piece,
)

-- two lines at the front of one text are one
pub same_line : (a b x y : List ℕ) → HasNoEnd a → HasNoEnd b → a ++ line_feed ∷ x ≡ b ++ line_feed ∷ y
    → (a ≡ b) × (x ≡ y)
same_line [] [] x y p q e = (refl, cc)
same_line [] (c ∷ b) x y p q e = let c_is : c ≡ line_feed = cc in absurd (q 0 0 (omega arith) c_is)
same_line (c ∷ a) [] x y p q e = let c_is : c ≡ line_feed = cc in absurd (p 0 0 (omega arith) c_is)
same_line (c ∷ a) (d ∷ b) x y p q e =
    let heads : c ≡ d = cc in
    let tails : a ++ line_feed ∷ x ≡ b ++ line_feed ∷ y = cc in
    let rest = same_line a b x y (All-tail (λ i. i ≢ line_feed) c a p) (All-tail (λ i. i ≢ line_feed) d b q) tails in
    (cc, rest.1)

-- two fronts of one length of one text are one
same_front : (a b x y : List ℕ) → length a ≡ length b → a ++ x ≡ b ++ y → (a ≡ b) × (x ≡ y)
same_front [] [] x y l e = (refl, e)
same_front [] (d ∷ b) x y l e = absurd (omega (arith, l))
same_front (c ∷ a) [] x y l e = absurd (omega (arith, l))
same_front (c ∷ a) (d ∷ b) x y l e =
    let heads : c ≡ d = cc in
    let tails : a ++ x ≡ b ++ y = cc in
    let rest = same_front a b x y (omega (arith, l)) tails in
    (cc, rest.1)

-- a whole line is no beginning of a line that is too long
pub line_is_short : (a p x y : List ℕ) → IsLine a → IsTooLong p → a ++ line_feed ∷ x ≡ p ++ y → ⊥
line_is_short a p x y line long e =
    let inside : length a < length p = omega (arith, line.within, long.beyond) in
    long.unended (length a) 0 inside
    (sym (get_or_append_left p y 0 (length a) inside) ∙ ap (λ xs. get_or xs (length a) 0) (sym e)
    ∙ get_or_at a line_feed x 0 (length a) refl)

-- CR LF is no wrong end of data
wrong_end : (end x y : List ℕ) (a : After) → IsWrongEnd end a → crlf ++ x ≡ end ++ y → ⊥
wrong_end [] x y a wrong e = wrong
wrong_end (b ∷ []) x y a wrong e = let b_is : b ≡ carriage_return = cc in wrong.0 b_is
wrong_end (b ∷ c ∷ []) x y a wrong e = let c_is : c ≡ line_feed = cc in wrong.1 c_is
wrong_end (b ∷ c ∷ d ∷ more) x y a wrong e = wrong

-- two wrong ends at one place are one
same_wrong_end : (p q x y : List ℕ) (a b : After) → IsWrongEnd p a → IsWrongEnd q b → p ++ x ≡ q ++ y
    → (p ≡ q) × (a ≡ b)
same_wrong_end [] q x y a b v w e = absurd v
same_wrong_end (c ∷ []) [] x y a b v w e = absurd w
same_wrong_end (c ∷ []) (d ∷ []) x y a b v w e =
    let same : c ≡ d = cc in (cc, v.1 ∙ ap after_wrong same ∙ sym w.1)
same_wrong_end (c ∷ []) (d ∷ f ∷ []) x y a b v w e =
    let same : c ≡ d = cc in absurd (v.0 (same ∙ w.0))
same_wrong_end (c ∷ []) (d ∷ f ∷ g ∷ more) x y a b v w e = absurd w
same_wrong_end (c ∷ k ∷ []) [] x y a b v w e = absurd w
same_wrong_end (c ∷ k ∷ []) (d ∷ []) x y a b v w e =
    let same : c ≡ d = cc in absurd (w.0 (sym same ∙ v.0))
same_wrong_end (c ∷ k ∷ []) (d ∷ f ∷ []) x y a b v w e = (cc, v.2 ∙ sym w.2)
same_wrong_end (c ∷ k ∷ []) (d ∷ f ∷ g ∷ more) x y a b v w e = absurd w
same_wrong_end (c ∷ k ∷ l ∷ more) q x y a b v w e = absurd v

-- what completes a line does so in one way
same_completion : (s : ParsedLine) (p q x y : List ℕ) (i j : Item) (a b : After)
    → Completes s p i a → Completes s q j b → p ++ x ≡ q ++ y → (p ≡ q) × (i ≡ j) × (a ≡ b)
same_completion (Asks c) p q x y (item.Request r) (item.Request t) a b v w e =
    (v.0 ∙ sym w.0, ap (λ k. item.Request k) (v.1 ∙ sym w.1), v.2 ∙ sym w.2)
same_completion (Asks c) p q x y (item.Request r) (item.Fault g) a b v w e = absurd w
same_completion (Asks c) p q x y (item.Fault f) j a b v w e = absurd v
same_completion (Refused f n) p q x y (item.Fault g) (item.Fault h) a b v w e =
    (v.0 ∙ sym w.0, ap (λ k. item.Fault k) (v.1 ∙ sym w.1), v.2 ∙ sym w.2)
same_completion (Refused f n) p q x y (item.Fault g) (item.Request t) a b v w e = absurd w
same_completion (Refused f n) p q x y (item.Request r) j a b v w e = absurd v
same_completion (AwaitsData n c) p q x y (item.Request r) (item.Request t) a b (m, ml, mp, mr, ma) (k, kl, kq, kr, ka) e =
    let value = same_front m k (crlf ++ x) (crlf ++ y) (ml ∙ sym kl)
    (sym (append_assoc m crlf x) ∙ ap (λ z. z ++ x) (sym mp) ∙ e ∙ ap (λ z. z ++ y) kq ∙ append_assoc k crlf y) in (
      mp ∙ ap (λ z. z ++ crlf) value.0 ∙ sym kq,
      ap (λ z. item.Request z) (mr ∙ ap c value.0 ∙ sym kr),
      ma ∙ sym ka,
    )
same_completion (AwaitsData n c) p q x y (item.Request r) (item.Fault g) a b (m, ml, mp, mr, ma) (k, end, kl, kq, kw, kg) e =
    let value = same_front m k (crlf ++ x) (end ++ y) (ml ∙ sym kl)
    (sym (append_assoc m crlf x) ∙ ap (λ z. z ++ x) (sym mp) ∙ e ∙ ap (λ z. z ++ y) kq ∙ append_assoc k end y) in
    absurd (wrong_end end x y b kw value.1)
same_completion (AwaitsData n c) p q x y (item.Fault g) (item.Request t) a b (k, end, kl, kq, kw, kg) (m, ml, mp, mr, ma) e =
    let value = same_front m k (crlf ++ y) (end ++ x) (ml ∙ sym kl)
    (sym (append_assoc m crlf y) ∙ ap (λ z. z ++ y) (sym mp) ∙ sym e ∙ ap (λ z. z ++ x) kq ∙ append_assoc k end x) in
    absurd (wrong_end end y x a kw value.1)
same_completion (AwaitsData n c) p q x y (item.Fault g) (item.Fault h) a b (m, low, ml, mp, mw, mg) (k, end, kl, kq, kw, kh) e =
    let value = same_front m k (low ++ x) (end ++ y) (ml ∙ sym kl)
    (sym (append_assoc m low x) ∙ ap (λ z. z ++ x) (sym mp) ∙ e ∙ ap (λ z. z ++ y) kq ∙ append_assoc k end y) in
    let ends = same_wrong_end low end x y a b mw kw value.1 in
    (mp ∙ ap (λ z. z ++ low) value.0 ∙ ap (λ z. k ++ z) ends.0 ∙ sym kq, ap (λ z. item.Fault z) (mg ∙ sym kh), ends.1)

-- a text decides one item, and no beginning of it decides another
same_decision : (p q x y : List ℕ) (i j : Item) (a b : After)
    → Decides p i a → Decides q j b → p ++ x ≡ q ++ y → (p ≡ q) × (i ≡ j) × (a ≡ b)
same_decision p q x y i j a b (by_line v m vl vp vc) (by_line w n wl wq wc) e =
    let lines = same_line v w (m ++ x) (n ++ y) vl.unended wl.unended
    (sym (append_assoc v (line_feed ∷ m) x) ∙ ap (λ z. z ++ x) (sym vp) ∙ e
    ∙ ap (λ z. z ++ y) wq ∙ append_assoc w (line_feed ∷ n) y) in
    let here : Completes (parsed (content w)) m i a = subst (λ z. Completes (parsed (content z)) m i a) lines.0 vc in
    let following = same_completion (parsed (content w)) m n x y i j a b here wc lines.1 in
    (vp ∙ ap (λ z. z ++ line_feed ∷ m) lines.0 ∙ ap (λ z. w ++ line_feed ∷ z) following.0 ∙ sym wq, following.1, following.2)
same_decision p q x y i j a b (by_line v m vl vp vc) (by_length long wi wa) e =
    absurd (line_is_short v q (m ++ x) y vl long
    (sym (append_assoc v (line_feed ∷ m) x) ∙ ap (λ z. z ++ x) (sym vp) ∙ e))
same_decision p q x y i j a b (by_length long vi va) (by_line w n wl wq wc) e =
    absurd (line_is_short w p (n ++ y) x wl long
    (sym (append_assoc w (line_feed ∷ n) y) ∙ ap (λ z. z ++ y) (sym wq) ∙ sym e))
same_decision p q x y i j a b (by_length v vi va) (by_length w wi wa) e =
    ((same_front p q x y (v.beyond ∙ sym w.beyond) e).0, vi ∙ sym wi, va ∙ sym wa)

-- from one place one item is emitted
pub same_item : (from : Reading) (i j : Item) (to on : Reading) → Emits from i to → Emits from j on
    → (i ≡ j) × (to ≡ on)
unfolding Emits
same_item from i j to on (p, x, a, pi, pd, pt) (q, y, b, qi, qd, qt) =
    let e : p ++ x ≡ q ++ y = ap (λ (r : Reading). r.unread) (sym pi ∙ qi) in
    let same = same_decision p q x y i j a b pd qd e in
    let left : x ≡ y = append_cancel_left p x y (e ∙ ap (λ z. z ++ y) (sym same.0)) in
    (same.1, pt ∙ ap (λ z. passed z x) same.2 ∙ ap (λ z. passed b z) left ∙ sym qt)

same_items : (from : Reading) (items others : List Item) (to on : Reading)
    → EmitsEach from items to → NeedsMore to → EmitsEach from others on → NeedsMore on
    → (items ≡ others) × (to ≡ on)
unfolding NeedsMore
same_items from [] [] to on v vo w wo = (refl, v ∙ sym w)
same_items from [] (j ∷ others) to on v vo (mid, emitted, w) wo =
    absurd (vo j mid (subst (λ r. Emits r j mid) (sym v) emitted))
same_items from (i ∷ items) [] to on (mid, emitted, v) vo w wo =
    absurd (wo i mid (subst (λ r. Emits r i mid) (sym w) emitted))
same_items from (i ∷ items) (j ∷ others) to on (mid, emitted, v) vo (way, also, w) wo =
    let first = same_item from i j mid way emitted also in
    let rest = same_items way items others to on (subst (λ r. EmitsEach r items to) first.1 v) vo w wo in
    (ap (λ z. z ∷ items) first.0 ∙ ap (λ z. j ∷ z) rest.0, rest.1)

pub feeding_keeps : FeedingKeeps
feeding_keeps = Emits-fed

pub one_reading : OneReading
one_reading bytes items others left rest v w =
    same_items (fed reading_start bytes) items others left rest v.gives.each v.open_end w.gives.each w.open_end
