-- Values that were read so far, at their places, and what follows them.
use Rattle.std.proofs.Common.{◌≡◌, ℕ, ◌+◌, ◌-◌, ◌<◌, ◌≤◌, List, [], ◌∷◌, ◌++◌, length, map, take, drop, Bool, refl, ap, sym, ◌∙◌, subst, arith, None, append_assoc, append-nil, length-append}
use Rattle.std.specs.Prelude.{All, codes}
use Rattle.std.proofs.lemmas.List.{drop-append-le, drop_at, length-drop, map-append, take-append-le, take_at}
use Rattle.std.proofs.lemmas.List.Elements.{All-head, All-nil, All-push, All-tail, All-weaker}
use Rattle.tko_bytes.proofs.NumberLemmas.{number_of-le}
use Rattle.tko_text.specs.declared.response.Response.TheVariants as response
use Rattle.tko_text.specs.declared.response.body.Value.{Value}
use Rattle.tko_text.specs.declared.response.fault.ReadFault.{ReadFault}
use Rattle.tko_text.specs.declared.response.place.ValuePlace.{ValuePlace}
use Rattle.tko_text.specs.declared.response.reader.Head.{Head}
use Rattle.tko_text.specs.Heads.{value_of}
use Rattle.tko_text.specs.Limits.{data_limit}
use Rattle.tko_text.specs.ListingFaults.{IsNextText, ListFault, ReadsList}
use Rattle.tko_text.specs.Places.{IsPlaceIn, keys_at, placed_data, value_at, values_in}
use Rattle.tko_text.specs.ResponseFaults.{SplitsEnd}
use Rattle.tko_text.specs.ResponseLines.{IsData}
use Rattle.tko_text.specs.Responses.{AreAwaited, IsAnswerLine, IsListing, IsValueAwaited, IsValueText, block}
use Rattle.tko_text.proofs.ListingFaultLemmas.{list_fault_after}
use Rattle.tko_text.proofs.ResponseLemmas.{taken}

-- the bytes are the texts of these values, one after another
abbrev pub AreTexts : List ℕ → List Value → Type 0
AreTexts bytes [] = bytes ≡ []
AreTexts bytes (v ∷ vs) = (first rest : List ℕ) × (bytes ≡ first ++ rest) × IsValueText first v × AreTexts rest vs

abbrev pub keys_of : List Value → List (List ℕ)
keys_of values = map (λ (v : Value). v.key) values

texts_push : (front first : List ℕ) (values : List Value) (v : Value) → AreTexts front values → IsValueText first v
    → AreTexts (front ++ first) (values ++ v ∷ [])
texts_push front first [] v texts text =
    (first, [], ap (λ xs. xs ++ first) texts ∙ sym (append-nil first), text, refl)
texts_push front first (w ∷ ws) v texts text =
    (texts.0, texts.1 ++ first, ap (λ xs. xs ++ first) texts.2 ∙ append_assoc texts.0 texts.1 first, texts.3, texts_push texts.1 first ws v texts.4 text)

texts_end : (front last : List ℕ) (values : List Value) → AreTexts front values → IsAnswerLine last (response.Values None)
    → IsListing (front ++ last) values
texts_end front last [] texts end = subst (λ (xs : List ℕ). IsAnswerLine (xs ++ last) (response.Values None)) (sym texts) end
texts_end front last (w ∷ ws) texts end =
    (texts.0, texts.1 ++ last, ap (λ xs. xs ++ last) texts.2 ∙ append_assoc texts.0 texts.1 last, texts.3, texts_end texts.1 last ws texts.4 end)

awaited_push : (keys : List (List ℕ)) (unique : Bool) (had : List (List ℕ)) (values : List Value) (v : Value)
    → AreAwaited keys unique had values → IsValueAwaited keys unique (had ++ keys_of values) v.key v.unique
    → AreAwaited keys unique had (values ++ v ∷ [])
awaited_push keys unique had [] v before awaited =
    (subst (λ (ks : List (List ℕ)). IsValueAwaited keys unique ks v.key v.unique) (append-nil had) awaited, tt)
awaited_push keys unique had (w ∷ ws) v before awaited = (
  before.0,
  awaited_push keys unique (had ++ w.key ∷ []) ws v before.1
      (subst (λ (ks : List (List ℕ)). IsValueAwaited keys unique ks v.key v.unique) (sym (append_assoc had (w.key ∷ []) (keys_of ws))) awaited),
)

-- the fault of what follows values that are whole is that of all
fault_back : (f : ReadFault) (keys : List (List ℕ)) (unique : Bool) (had : List (List ℕ)) (front rest : List ℕ) (values : List Value)
    → AreTexts front values → AreAwaited keys unique had values → ListFault f keys unique (had ++ keys_of values) rest
    → ListFault f keys unique had (front ++ rest)
fault_back f keys unique had front rest [] texts before fault =
    subst (λ (xs : List ℕ). ListFault f keys unique had (xs ++ rest)) (sym texts)
    (subst (λ (ks : List (List ℕ)). ListFault f keys unique ks rest) (append-nil had) fault)
fault_back f keys unique had front rest (w ∷ ws) texts before fault =
    list_fault_after keys unique had (front ++ rest) texts.0 (texts.1 ++ rest) w
    (ap (λ xs. xs ++ rest) texts.2 ∙ append_assoc texts.0 texts.1 rest) texts.3 before.0 f
    (fault_back f keys unique (had ++ w.key ∷ []) texts.1 rest ws texts.4 before.1
    (subst (λ (ks : List (List ℕ)). ListFault f keys unique ks rest) (sym (append_assoc had (w.key ∷ []) (keys_of ws))) fault))

-- places in a text are the same places in a longer one
placed_longer : (text more : List ℕ) (place : ValuePlace) → IsPlaceIn text place → placed_data (text ++ more) place ≡ placed_data text place
placed_longer text more place is =
    ap (take place.head.size) (drop-append-le place.begin text more (omega (arith, is.within)))
    ∙ take-append-le place.head.size (drop place.begin text) more (omega (arith, is.within, length-drop place.begin text))

value_longer : (text more : List ℕ) (place : ValuePlace) → IsPlaceIn text place → value_at (text ++ more) place ≡ value_at text place
value_longer text more place is = ap (value_of place.key place.head) (placed_longer text more place is)

values_longer : (text more : List ℕ) (places : List ValuePlace) → All (IsPlaceIn text) places → values_in (text ++ more) places ≡ values_in text places
values_longer text more [] are = refl
values_longer text more (place ∷ places) are =
    ap (λ v. v ∷ values_in (text ++ more) places) (value_longer text more place (All-head (IsPlaceIn text) place places are))
    ∙ ap (λ vs. value_at text place ∷ vs) (values_longer text more places (All-tail (IsPlaceIn text) place places are))

fits_longer : (text more : List ℕ) (places : List ValuePlace) → All (IsPlaceIn text) places → All (IsPlaceIn (text ++ more)) places
fits_longer text more places are =
    All-weaker (IsPlaceIn text) (IsPlaceIn (text ++ more))
    (λ place is. record {
      within = omega (arith, is.within, length-append text more);
      few = subst IsData (sym (placed_longer text more place is)) is.few;
    }) places are

keys_of_places : (text : List ℕ) (places : List ValuePlace) → keys_of (values_in text places) ≡ keys_at places
keys_of_places text [] = refl
keys_of_places text (place ∷ places) = ap (λ ks. place.key ∷ ks) (keys_of_places text places)

-- the values at these places were read, and the rest follows them
pub record PartlyRead (keys : List (List ℕ)) (unique : Bool) (bytes : List ℕ) (places : List ValuePlace) (rest : List ℕ) : Type 0 where
  pub front : List ℕ
  pub whole : bytes ≡ front ++ rest
  pub texts : AreTexts front (values_in front places)
  pub awaited : AreAwaited keys unique [] (values_in front places)
  pub fits : All (IsPlaceIn front) places

pub partly_none : (keys : List (List ℕ)) (unique : Bool) (bytes : List ℕ) → PartlyRead keys unique bytes [] bytes
partly_none keys unique bytes = record { front = []; whole = refl; texts = refl; awaited = tt; fits = All-nil (IsPlaceIn []) }

pub partly_fault : (f : ReadFault) (keys : List (List ℕ)) (unique : Bool) (bytes : List ℕ) (places : List ValuePlace) (rest : List ℕ)
    → PartlyRead keys unique bytes places rest → ListFault f keys unique (keys_at places) rest → ListFault f keys unique [] bytes
partly_fault f keys unique bytes places rest is fault =
    subst (λ (xs : List ℕ). ListFault f keys unique [] xs) (sym is.whole)
    (fault_back f keys unique [] is.front rest (values_in is.front places) is.texts is.awaited
    (subst (λ (ks : List (List ℕ)). ListFault f keys unique ks rest) (sym (keys_of_places is.front places)) fault))

pub partly_end : (keys : List (List ℕ)) (unique : Bool) (bytes : List ℕ) (places : List ValuePlace) (rest more : List ℕ)
    → PartlyRead keys unique bytes places rest → SplitsEnd rest more → ReadsList keys unique bytes places (length bytes - length more)
partly_end keys unique bytes places rest more is end =
    let whole : bytes ≡ (is.front ++ end.0) ++ more = is.whole ∙ ap (λ xs. is.front ++ xs) end.2 ∙ sym (append_assoc is.front end.0 more) in
    let text = taken bytes (is.front ++ end.0) more whole in
    let values = values_longer is.front end.0 places is.fits in
    record {
      within = omega arith;
      fits = subst (λ (xs : List ℕ). All (IsPlaceIn xs) places) (sym text) (fits_longer is.front end.0 places is.fits);
      listing = subst (λ (xs : List ℕ). IsListing xs (values_in xs places)) (sym text)
          (subst (λ (vs : List Value). IsListing (is.front ++ end.0) vs) (sym values) (texts_end is.front end.0 (values_in is.front places) is.texts end.1));
      awaited = subst (λ (xs : List ℕ). AreAwaited keys unique [] (values_in xs places)) (sym text)
          (subst (λ (vs : List Value). AreAwaited keys unique [] vs) (sym values) is.awaited);
    }

-- how long the text of a value is
text_len : (first rest more : List ℕ) (v : Value) → (text : IsValueText first v) → rest ≡ first ++ more
    → length rest ≡ length text.head + length v.data + 2 + length more
text_len first rest more v text e =
    omega (arith, ap length e, length-append first more, ap length text.whole, length-append text.head (block v.data), length-append v.data (codes "\r\n"))

module _ (keys : List (List ℕ)) (unique : Bool) (bytes : List ℕ) (places : List ValuePlace) (rest : List ℕ) (is : PartlyRead keys unique bytes places rest)
    (key : List ℕ) (head : Head) (stored more : List ℕ) (next : IsNextText keys unique (keys_at places) rest key head stored more) where
  pub next_len : length more + 2 + head.size ≤ length bytes
  next_len = omega (arith, next.few, text_len next.first rest more (value_of key head stored) next.text next.whole, ap length is.whole, length-append is.front rest)

  pub next_shorter : length more < length rest
  next_shorter = omega (arith, text_len next.first rest more (value_of key head stored) next.text next.whole)

  module _ (place : ValuePlace) (key_is : place.key ≡ key) (head_is : place.head ≡ head) (begin_is : place.begin ≡ length bytes - length more - 2 - head.size) where
    begins : length (is.front ++ next.text.head) ≡ place.begin
    begins =
        let rest_len = text_len next.first rest more (value_of key head stored) next.text next.whole in
        omega (arith, begin_is, next.few, rest_len, ap length is.whole, length-append is.front rest, length-append is.front next.text.head)

    data_is : placed_data (is.front ++ next.first) place ≡ stored
    data_is =
        let parts : is.front ++ next.first ≡ (is.front ++ next.text.head) ++ block stored =
        ap (λ xs. is.front ++ xs) next.text.whole ∙ sym (append_assoc is.front next.text.head (block stored)) in
        ap (λ (h : Head). take h.size (drop place.begin (is.front ++ next.first))) head_is
        ∙ ap (λ xs. take head.size (drop place.begin xs)) parts
        ∙ ap (take head.size) (drop_at (is.front ++ next.text.head) (block stored) place.begin begins)
        ∙ take_at stored (codes "\r\n") head.size next.few

    value_is : value_at (is.front ++ next.first) place ≡ value_of key head stored
    value_is =
        ap (λ d. value_of place.key place.head d) data_is
        ∙ ap (λ k. value_of k place.head stored) key_is ∙ ap (λ h. value_of key h stored) head_is

    values_are : values_in (is.front ++ next.first) (places ++ place ∷ []) ≡ values_in is.front places ++ value_of key head stored ∷ []
    values_are =
        map-append (value_at (is.front ++ next.first)) places (place ∷ [])
        ∙ ap (λ vs. vs ++ value_at (is.front ++ next.first) place ∷ []) (values_longer is.front next.first places is.fits)
        ∙ ap (λ v. values_in is.front places ++ v ∷ []) value_is

    place_is_in : IsPlaceIn (is.front ++ next.first) place
    place_is_in =
        let few = number_of-le data_limit next.text.is_head.size_word (length stored) next.text.is_head.size_is in
        let sizes : place.head.size ≡ head.size = ap (λ (h : Head). h.size) head_is in
        record {
          within = omega (
            arith,
            sizes,
            sym begins,
            next.few,
            length-append is.front next.text.head,
            length-append is.front next.first,
            ap length next.text.whole,
            length-append next.text.head (block stored),
            length-append stored (codes "\r\n"),
          );
          few = subst IsData (sym data_is) few;
        }

    pub partly_more : PartlyRead keys unique bytes (places ++ place ∷ []) more
    partly_more = record {
      front = is.front ++ next.first;
      whole = is.whole ∙ ap (λ xs. is.front ++ xs) next.whole ∙ sym (append_assoc is.front next.first more);
      texts = subst (λ (vs : List Value). AreTexts (is.front ++ next.first) vs) (sym values_are)
          (texts_push is.front next.first (values_in is.front places) (value_of key head stored) is.texts next.text);
      awaited = subst (λ (vs : List Value). AreAwaited keys unique [] vs) (sym values_are)
          (awaited_push keys unique [] (values_in is.front places) (value_of key head stored) is.awaited
          (subst (λ (ks : List (List ℕ)). IsValueAwaited keys unique ks key head.unique) (sym (keys_of_places is.front places)) next.awaited));
      fits = All-push (IsPlaceIn (is.front ++ next.first)) places place (fits_longer is.front next.first places is.fits) place_is_in;
    }
