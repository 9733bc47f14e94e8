-- Where responses end, and how long they are at least.
use Rattle.std.proofs.Common.{◌≡◌, ℕ, ◌+◌, ◌-◌, ◌<◌, ◌≤◌, List, [], ◌∷◌, ◌++◌, length, take, drop, get_or, refl, ap, sym, ◌∙◌, subst, inl, inr, arith, append_assoc, length-append, Some}
use Rattle.std.proofs.lemmas.List.{get_or-append_right, get_or-take, get_or_at, length-take-le, take-append-drop, take-append-le}
use Rattle.std.proofs.lemmas.Bool.{cases_lt}
use Rattle.tko_bytes.specs.Lines.{HasNoEnd}
use Rattle.tko_text.specs.declared.request.Request.{Request}
use Rattle.tko_text.specs.declared.response.Response.{Response}
use Rattle.tko_text.specs.declared.response.body.Value.{Value}
use Rattle.tko_text.specs.ResponseLines.{Split, SplitsLine}
use Rattle.tko_text.specs.Responses.{RequestKind, IsBody, IsHead, IsListing, Says, Suits, block, request_kind}
use Rattle.tko_text.specs.ResponseReads.{IsResponse, NoResponse}
use Rattle.tko_text.specs.ResponseFaults.{IsResponseOf, value_line}
use Rattle.tko_text.specs.ResponseLengths.{IsLeastLength, IsLeastOf}
use Rattle.tko_text.proofs.RequestKindLemmas.{IsSingle, none_listed, same_kind}
use Rattle.tko_text.proofs.ResponseBodyLemmas.{head_is_one}
use Rattle.tko_text.proofs.ResponseLineLemmas.{line_is_one}
use Rattle.tko_text.proofs.ResponseLemmas.Opening.{by_line, by_value, by_list}
use Rattle.tko_text.proofs.ResponseLemmas.{Opening, opening}
use Rattle.tko_text.proofs.ResponseWordLemmas.{value_says_nothing}

listing_ends : (front : List ℕ) (values : List Value) → IsListing front values → (before : List ℕ) × (front ≡ before ++ 10 ∷ [])
listing_ends front [] is = (is.is_line.before, is.is_line.whole)
listing_ends front (v ∷ vs) is =
    let rest = listing_ends is.1 vs is.4 in
    (is.0 ++ rest.0, is.2 ∙ ap (λ xs. is.0 ++ xs) rest.1 ∙ sym (append_assoc is.0 rest.0 (10 ∷ [])))

opening_ends : (front : List ℕ) (r : Response) → Opening front r → (before : List ℕ) × (front ≡ before ++ 10 ∷ [])
opening_ends front r (by_line f line s is says) = (is.before, is.whole)
opening_ends front r (by_value head line body value is is_body) =
    let last = is_body.is_end.is_line in
    let body_is : body ≡ (block value.data ++ last.before) ++ 10 ∷ [] =
    is_body.whole ∙ ap (λ xs. block value.data ++ xs) last.whole ∙ sym (append_assoc (block value.data) last.before (10 ∷ [])) in
    (head ++ (block value.data ++ last.before), ap (λ xs. head ++ xs) body_is ∙ sym (append_assoc head (block value.data ++ last.before) (10 ∷ [])))
opening_ends front r (by_list f values is) = listing_ends front values is

-- a response ends with an LF
pub response_ends : (request : Request) (bytes : List ℕ) (r : Response) → IsResponse request bytes r
    → (before : List ℕ) × (bytes ≡ before ++ 10 ∷ [])
unfolding IsResponse
response_ends request bytes r is = opening_ends bytes r (opening bytes r is.3)

-- the last byte of a front that ends with an LF
last_of_front : (xs before : List ℕ) (n : ℕ) → n ≤ length xs → take n xs ≡ before ++ 10 ∷ []
    → (length before + 1 ≡ n) × (get_or xs (length before) 0 ≡ 10)
last_of_front xs before n le e =
    let len : length before + 1 ≡ n = omega (arith, ap length e, length-append before (10 ∷ []), length-take-le n xs le) in (
      len,
      sym (get_or-take n xs (length before) 0 (omega (arith, len)))
          ∙ ap (λ ys. get_or ys (length before) 0) e ∙ get_or_at before 10 [] 0 (length before) refl,
    )

-- a piece without LF completes no response
pub no_response_more : (request : Request) (bytes piece : List ℕ) → NoResponse request bytes → HasNoEnd piece
    → NoResponse request (bytes ++ piece)
unfolding NoResponse
no_response_more request bytes piece none text n r le is = elim (cases_lt (length bytes) n) [
  | inr inside ↦ none n r inside (subst (λ xs. IsResponse request xs r) (take-append-le n bytes piece inside) is)
  | inl beyond ↦
      let end = response_ends request (take n (bytes ++ piece)) r is in
      let last = last_of_front (bytes ++ piece) end.0 n le end.1 in
      let size = length-append bytes piece in
      text (length end.0 - length bytes) 0 (omega (arith, last.0, beyond, le, size))
      (sym (get_or-append_right bytes piece (length bytes) (length end.0) 0 refl (omega (arith, last.0, beyond))) ∙ last.1)
]

-- nor do bytes that are fewer than the least length
pub no_response_short : (request : Request) (bytes more : List ℕ) (least : ℕ) → IsLeastLength request bytes least
    → length (bytes ++ more) < least → NoResponse request (bytes ++ more)
unfolding NoResponse IsLeastLength
no_response_short request bytes more least is few n r le of = omega (arith, is more n r le of, le, few)

pub least_more : (request : Request) (bytes piece : List ℕ) (least : ℕ) → IsLeastLength request bytes least
    → IsLeastLength request (bytes ++ piece) least
unfolding IsLeastLength
least_more request bytes piece least is more n r le of =
    let same : (bytes ++ piece) ++ more ≡ bytes ++ (piece ++ more) = append_assoc bytes piece more in
    is (piece ++ more) n r (subst (λ xs. n ≤ length xs) same le) (subst (λ xs. IsResponse request (take n xs) r) same of)

-- no bytes are no response, and any may follow
pub no_response_none : (request : Request) → NoResponse request []
unfolding NoResponse
no_response_none request n r le is =
    let end = response_ends request (take n []) r is in
    let last = last_of_front [] end.0 n le end.1 in
    omega (arith, last.0, le)

pub least_none : (request : Request) (bytes : List ℕ) → IsLeastLength request bytes 0
unfolding IsLeastLength
least_none request bytes more n r le of = omega arith

pub least_of_none : (kind : RequestKind) (bytes : List ℕ) → IsLeastOf kind bytes 0
unfolding IsLeastOf
least_of_none kind bytes more n r le of = omega arith

-- a request of a kind has the least length of its kind
pub least_kind : (request : Request) (kind : RequestKind) (bytes : List ℕ) (least : ℕ) → request_kind request ≡ Some kind
    → IsLeastOf kind bytes least → IsLeastLength request bytes least
unfolding IsLeastLength IsLeastOf IsResponse
least_kind request kind bytes least of is more n r le found =
    is more n r le (subst (λ (k : RequestKind). IsResponseOf k (take n (bytes ++ more)) r) (same_kind request kind found.0 of found.1) (found.2, found.3))

module _ (kind : RequestKind) (single : IsSingle kind) (bytes arguments rest key : List ℕ) (flags size : ℕ) (cas : _) (split : SplitsLine bytes (value_line arguments) rest)
    (head : IsHead (value_line arguments) key flags size cas) where
  long_opening : (front more : List ℕ) (r : Response) → Suits kind r → Opening front r → (later : List ℕ) → bytes ++ more ≡ front ++ later
      → length bytes - length rest + size + 3 ≤ length front
  long_opening front more r suits (by_line f line s is says) later e =
      let whole : split.0 ++ (rest ++ more) ≡ front ++ later = sym (append_assoc split.0 rest more) ∙ ap (λ xs. xs ++ more) (sym split.2) ∙ e in
      let same = line_is_one split.0 front (value_line arguments) line (rest ++ more) later split.1 is whole in
      absurd (value_says_nothing arguments s (subst (λ (xs : Split). Says xs s) (sym same.1) says))
  long_opening front more r suits (by_value first line body value is is_body) later e =
      let whole : split.0 ++ (rest ++ more) ≡ first ++ (body ++ later) =
      sym (append_assoc split.0 rest more) ∙ ap (λ xs. xs ++ more) (sym split.2) ∙ e ∙ append_assoc first body later in
      let same = line_is_one split.0 first (value_line arguments) line (rest ++ more) (body ++ later) split.1 is whole in
      let body_same : IsBody (value_line arguments) body value = subst (λ (xs : Split). IsBody xs body value) (sym same.1) is_body in
      let heads = head_is_one (value_line arguments) key value.key flags value.flags size (length value.data) cas value.unique head body_same.is_head in
      let last = body_same.is_end.is_line in
      let first_len = ap length same.0 in
      let split_len = ap length split.2 ∙ length-append split.0 rest in
      let body_len = ap length body_same.whole ∙ length-append (block value.data) body_same.last in
      let block_len = length-append value.data (13 ∷ 10 ∷ []) in
      let last_len = ap length last.whole ∙ length-append last.before (10 ∷ []) in
      omega (arith, length-append first body, first_len, split_len, body_len, block_len, last_len, heads.2)
  long_opening front more r suits (by_list f values is) later e = absurd (none_listed kind values single suits)

  pub least_value : IsLeastOf kind bytes (length bytes - length rest + size + 3)
  unfolding IsLeastOf
  least_value more n r le is =
      let long = long_opening (take n (bytes ++ more)) more r is.0 (opening (take n (bytes ++ more)) r is.1) (drop n (bytes ++ more)) (sym (take-append-drop n (bytes ++ more))) in
      omega (arith, long, length-take-le n (bytes ++ more) le)
