-- A reading is one.
use Rattle.std.proofs.Common.{◌≡◌, ℕ, List, ◌++◌, length, take, drop, refl, ap, sym, ◌∙◌, subst, inl, inr, Some, None, append_assoc, [], ◌∷◌}
use Rattle.std.proofs.lemmas.List.{take-append-drop}
use Rattle.tko_text.specs.declared.response.Response.{Response}
use Rattle.tko_text.specs.declared.response.Response.TheVariants as response
use Rattle.tko_text.specs.declared.response.body.Value.{Value}
use Rattle.tko_text.specs.ResponseLines.{IsOpenLine, IsSplitLine, Split}
use Rattle.tko_text.specs.Responses.{RequestKind, Says, Suits, IsBody, IsListing, block}
use Rattle.tko_text.specs.ResponseReads.{IsCutList, IsCutValue, IsResponse, IsBeginning, NoResponse, OneResponse, BeginningHasNone}
use Rattle.tko_text.proofs.ListingTexts.{same_value, same_text, text_is_no_end, text_says_nothing, cut_has_no_listing, cut_list_is_no_line, listing_line}
use Rattle.tko_text.proofs.ResponseLineLemmas.{line_is_one, open_line_has_none}
use Rattle.tko_text.proofs.ResponseWordLemmas.{says_is_one, says_no_head}
use Rattle.tko_text.proofs.ResponseBodyLemmas.{head_is_one, data_is_one, cut_data_has_none, rest_is, body_data}
use Rattle.tko_text.proofs.ResponseLemmas.Opening.{by_line, by_value, by_list}
use Rattle.tko_text.proofs.RequestKindLemmas.{cut_list_is_no_value, listed_alone, listed_uncut, same_kind}
use Rattle.tko_text.proofs.ResponseLemmas.{Opening, opening}

-- a line that announces a value goes on to one value
body_is_one : (line : Split) (body other x y : List ℕ) (v w : Value) → IsBody line body v → IsBody line other w
    → body ++ x ≡ other ++ y → (body ≡ other) × (v ≡ w)
body_is_one line body other x y v w a b e =
    let heads = head_is_one line v.key w.key v.flags w.flags (length v.data) (length w.data) v.unique w.unique a.is_head b.is_head in
    let parts = data_is_one v.data w.data (a.last ++ x) (b.last ++ y) heads.2 (sym (body_data (body ++ x) body x line v refl a) ∙ e ∙ body_data (other ++ y) other y line w refl b) in
    let ends = line_is_one a.last b.last a.is_end.line b.is_end.line x y a.is_end.is_line b.is_end.is_line parts.1 in (
      a.whole ∙ ap (λ xs. block xs ++ a.last) parts.0 ∙ ap (λ xs. block w.data ++ xs) ends.0 ∙ sym b.whole,
      same_value v w heads.0 heads.1 parts.0 heads.3,
    )

-- a line of a response announces no value
no_value : (line other : Split) (body : List ℕ) (r : Response) (value : Value) → other ≡ line → Says line r → IsBody other body value → ⊥
no_value line other body r value same says is =
    says_no_head other value.key value.flags (length value.data) value.unique r (subst (λ (xs : Split). Says xs r) (sym same) says) is.is_head

-- two listings of the same bytes are one
listings_are_one : (a b x y : List ℕ) (vs ws : List Value) → IsListing a vs → IsListing b ws → a ++ x ≡ b ++ y
    → (a ≡ b) × (vs ≡ ws)
listings_are_one a b x y [] [] v w e = ((line_is_one a b v.line w.line x y v.is_line w.is_line e).0, refl)
listings_are_one a b x y [] (w ∷ ws) v l e =
    absurd (text_is_no_end l.0 a w (l.1 ++ y) x l.3 v (sym (e ∙ ap (λ xs. xs ++ y) l.2 ∙ append_assoc l.0 l.1 y)))
listings_are_one a b x y (v ∷ vs) [] l w e =
    absurd (text_is_no_end l.0 b v (l.1 ++ x) y l.3 w (sym (append_assoc l.0 l.1 x) ∙ ap (λ xs. xs ++ x) (sym l.2) ∙ e))
listings_are_one a b x y (v ∷ vs) (w ∷ ws) l m e =
    let whole : l.0 ++ (l.1 ++ x) ≡ m.0 ++ (m.1 ++ y) =
    sym (append_assoc l.0 l.1 x) ∙ ap (λ xs. xs ++ x) (sym l.2) ∙ e ∙ ap (λ xs. xs ++ y) m.2 ∙ append_assoc m.0 m.1 y in
    let same = same_text l.0 m.0 (l.1 ++ x) (m.1 ++ y) v w l.3 m.3 whole in
    let rest = listings_are_one l.1 m.1 x y vs ws l.4 m.4 same.2 in
    (l.2 ∙ ap (λ xs. xs ++ l.1) same.0 ∙ ap (λ xs. m.0 ++ xs) rest.0 ∙ sym m.2, ap (λ u. u ∷ vs) same.1 ∙ ap (λ us. w ∷ us) rest.1)

-- a request that lists values has no other response that begins with a value or is the line `END`
no_line_lists : (kind : RequestKind) (values : List Value) (a b x y : List ℕ) (line : Split) (r : Response)
    → Suits kind (response.Listed values) → Suits kind r → IsListing a values → IsSplitLine b line → Says line r → a ++ x ≡ b ++ y → ⊥
no_line_lists kind [] a b x y line r lists suits is first says e =
    let same = line_is_one a b is.line line x y is.is_line first e in
    let r_is : r ≡ response.Values None = says_is_one line r (response.Values None) says (subst (λ (l : Split). Says l (response.Values None)) same.1 is.says) in
    listed_alone kind [] None lists (subst (λ (s : Response). Suits kind s) r_is suits)
no_line_lists kind (v ∷ vs) a b x y line r lists suits is first says e =
    text_says_nothing is.0 v (is.1 ++ x) b y line r is.3 first says
    (sym (append_assoc is.0 is.1 x) ∙ ap (λ xs. xs ++ x) (sym is.2) ∙ e)

-- two openings of the same bytes that suit one kind are one
openings_are_one : (kind : RequestKind) (a b x y : List ℕ) (r s : Response) → Suits kind r → Suits kind s → Opening a r → Opening b s
    → a ++ x ≡ b ++ y → (a ≡ b) × (r ≡ s)
openings_are_one kind a b x y r s suits also (by_line f line r' is says) (by_line g other s' is' says') e =
    let same = line_is_one a b line other x y is is' e in
    (same.0, says_is_one line r s says (subst (λ (xs : Split). Says xs s) (sym same.1) says'))
openings_are_one kind a b x y r s suits also (by_line f line r' is says) (by_value head other body value is' is_body) e =
    let same = line_is_one a head line other x (body ++ y) is is' (e ∙ append_assoc head body y) in
    absurd (no_value line other body r value (sym same.1) says is_body)
openings_are_one kind a b x y r s suits also (by_value head other body value is' is_body) (by_line f line r' is says) e =
    let same = line_is_one head b other line (body ++ x) y is' is (sym (append_assoc head body x) ∙ e) in
    absurd (no_value line other body s value same.1 says is_body)
openings_are_one kind a b x y r s suits also (by_value head line body value is is_body) (by_value head' line' body' value' is' is_body') e =
    let same = line_is_one head head' line line' (body ++ x) (body' ++ y) is is' (sym (append_assoc head body x) ∙ e ∙ append_assoc head' body' y) in
    let bodies = body_is_one line body body' x y value value' is_body (subst (λ (xs : Split). IsBody xs body' value') (sym same.1) is_body') same.2 in
    (ap (λ xs. xs ++ body) same.0 ∙ ap (λ xs. head' ++ xs) bodies.0, ap (λ v. response.Values (Some v)) bodies.1)
openings_are_one kind a b x y r s suits also (by_list f values is) (by_list g others is') e =
    let same = listings_are_one a b x y values others is is' e in
    (same.0, ap (λ vs. response.Listed vs) same.1)
openings_are_one kind a b x y r s suits also (by_list f values is) (by_line g line s' first says) e =
    absurd (no_line_lists kind values a b x y line s suits also is first says e)
openings_are_one kind a b x y r s suits also (by_line f line r' first says) (by_list g values is) e =
    absurd (no_line_lists kind values b a y x line r also suits is first says (sym e))
openings_are_one kind a b x y r s suits also (by_list f values is) (by_value head line body value first is_body) e =
    absurd (listed_alone kind values (Some value) suits also)
openings_are_one kind a b x y r s suits also (by_value head line body value first is_body) (by_list g values is) e =
    absurd (listed_alone kind values (Some value) also suits)

pub one_response : OneResponse
unfolding IsResponse
one_response request first second x y r s a b e =
    let kind : b.0 ≡ a.0 = same_kind request a.0 b.0 a.1 b.1 in
    openings_are_one a.0 first second x y r s a.2 (subst (λ (k : RequestKind). Suits k s) kind b.2) (opening first r a.3) (opening second s b.3) e

cut_has_none : (kind : RequestKind) (bytes front rest : List ℕ) (r : Response) → Suits kind r → IsCutValue kind bytes → Opening front r → bytes ≡ front ++ rest → ⊥
cut_has_none kind bytes front rest r suits cut (by_line f line r' is says) e =
    let same = line_is_one cut.head front cut.line line cut.body rest cut.is_line is (sym cut.whole ∙ e) in
    let begun = cut.is_cut in
    says_no_head cut.line begun.key begun.flags begun.size begun.cas r (subst (λ (xs : Split). Says xs r) (sym same.1) says) begun.is_head
cut_has_none kind bytes front rest r suits cut (by_value head line body value is is_body) e =
    let same = line_is_one cut.head head cut.line line cut.body (body ++ rest) cut.is_line is (sym cut.whole ∙ e ∙ append_assoc head body rest) in
    let begun = cut.is_cut in
    let here = subst (λ (xs : Split). IsBody xs body value) (sym same.1) is_body in
    let size : length value.data ≡ begun.size = sym (head_is_one cut.line begun.key value.key begun.flags value.flags begun.size (length value.data) begun.cas value.unique begun.is_head here.is_head).2 in
    let goes = body_data cut.body body rest cut.line value same.2 here in
    elim begun.cut [
      | inl short ↦ cut_data_has_none begun.size cut.body value.data (here.last ++ rest) short goes size
      | inr end ↦ open_line_has_none end.1 here.last here.is_end.line rest end.4 here.is_end.is_line (rest_is cut.body end.0 end.1 value.data (here.last ++ rest) end.3 goes (size ∙ sym end.2))
    ]
cut_has_none kind bytes front rest r suits cut (by_list f values is) e = listed_uncut kind values bytes suits cut

open_has_no_opening : (bytes front rest : List ℕ) (r : Response) → Opening front r → bytes ≡ front ++ rest → IsOpenLine bytes → ⊥
open_has_no_opening bytes front rest r (by_line f line r' is says) e open_line = open_line_has_none bytes front line rest open_line is e
open_has_no_opening bytes front rest r (by_value head line body value is is_body) e open_line = open_line_has_none bytes head line (body ++ rest) open_line is (e ∙ append_assoc head body rest)
open_has_no_opening bytes front rest r (by_list f values is) e open_line =
    let first = listing_line front values is in
    open_line_has_none bytes first.0 first.1 (first.2 ++ rest) open_line first.3
    (e ∙ ap (λ xs. xs ++ rest) first.4 ∙ append_assoc first.0 first.2 rest)

-- where a listing isn't whole, no front of the bytes is a response to the request
cut_list_has_none : (kind : RequestKind) (bytes front rest : List ℕ) (r : Response) → Suits kind r → IsCutList kind bytes → Opening front r → bytes ≡ front ++ rest → ⊥
cut_list_has_none kind bytes front rest r suits cut (by_line f line r' is says) e = cut_list_is_no_line kind bytes front rest line r cut is says e
cut_list_has_none kind bytes front rest r suits cut (by_value head line body value is is_body) e = cut_list_is_no_value kind bytes value suits cut
cut_list_has_none kind bytes front rest r suits cut (by_list f values is) e = cut_has_no_listing kind bytes front rest values cut is e

pub beginning_has_none : BeginningHasNone
unfolding IsBeginning NoResponse IsResponse
beginning_has_none request bytes begins n r le is =
    let front = opening (take n bytes) r is.3 in
    let whole = sym (take-append-drop n bytes) in
    let suits = subst (λ (k : RequestKind). Suits k r) (same_kind request begins.0 is.0 begins.1 is.1) is.2 in
    elim begins.2 [
      | inl open_line ↦ open_has_no_opening bytes (take n bytes) (drop n bytes) r front whole open_line
      | inr (inl cut) ↦ cut_has_none begins.0 bytes (take n bytes) (drop n bytes) r suits cut front whole
      | inr (inr cut) ↦ cut_list_has_none begins.0 bytes (take n bytes) (drop n bytes) r suits cut front whole
    ]
