-- Values at the places of a text that is read from its front.
use Rattle.std.proofs.Common.{◌≡◌, ℕ, ◌+◌, ◌-◌, ◌<◌, ◌≤◌, List, [], ◌∷◌, length, get_or, take, drop, true, false, Bool, ◌||◌, refl, ap, sym, ◌∙◌, subst, inl, inr, arith, Option, Some, None}
use Rattle.std.specs.List.{list_any, position, position_from}
use Rattle.std.specs.Option.{MatchOption, is_some}
use Rattle.std.specs.Str.{bytes_eq}
use Rattle.std.proofs.lemmas.Bool.{both_ways, cases_Bool, cond-true, cond-false}
use Rattle.std.proofs.lemmas.Iterator.Adapters.{position_from-zero}
use Rattle.std.proofs.lemmas.List.{get_or-drop, length-drop, take_rest}
use Rattle.std.proofs.lemmas.List.Folds.{list_any_at}
use Rattle.std.proofs.lemmas.List.Quantifiers.{position-Some}
use Rattle.std.proofs.lemmas.Slice.Eq.{bytes_eq-Decides}
use Rattle.tko_text.specs.declared.response.place.ValuePlace.{ValuePlace}
use Rattle.tko_text.specs.Places.{keys_at}
use Rattle.tko_bytes.specs.Words.{words}
use Rattle.tko_text.specs.ListingFaults.{NotAwaited}
use Rattle.tko_text.specs.ResponseFaults.{NoHead, value_line}
use Rattle.tko_text.specs.Responses.{IsHead, IsValueAwaited, is_among}

-- the keys of places, by a test of places
pub keys_among : (places : List ValuePlace) (key : List ℕ)
    → list_any (λ (place : ValuePlace). bytes_eq place.key key) places ≡ is_among (keys_at places) key
keys_among [] key = refl
keys_among (place ∷ places) key = ap (λ test. bytes_eq place.key key || test) (keys_among places key)

-- a key that no index has is not among the keys
none_at : (test : List ℕ → Bool) (place : ℕ) (keys : List (List ℕ)) → position_from test place keys ≡ None → list_any test keys ≡ false
none_at test place [] none = refl
none_at test place (key ∷ keys) none = elim (cases_Bool (test key)) [
  | inl is ↦ let found : Some place ≡ None = sym (cond-true _ _ _ is) ∙ none in absurd (cc)
  | inr isnt ↦ rw isnt (none_at test (place + 1) keys (sym (cond-false _ _ _ isnt) ∙ none))
]

-- what the first index of a key says
pub key_at : (keys : List (List ℕ)) (key : List ℕ) (index : ℕ) → Some index ≡ position (λ other. bytes_eq other key) keys
    → (index < length keys) × (get_or keys index [] ≡ key)
key_at keys key index found =
    let at = position-Some (λ other. bytes_eq other key) keys index [] (sym found) in
    (at.0, (bytes_eq-Decides (get_or keys index []) key).0 at.1)

-- the index of a key, or that there is none
pub key_among : (keys : List (List ℕ)) (key : List ℕ) (found : Option ℕ) → found ≡ position (λ other. bytes_eq other key) keys
    → MatchOption found (is_among keys key ≡ false) (λ index. (index < length keys) × (get_or keys index [] ≡ key))
key_among keys key None none =
    none_at (λ other. bytes_eq other key) 0 keys (sym (position_from-zero (λ other. bytes_eq other key) keys) ∙ sym none)
key_among keys key (Some index) found = key_at keys key index found

-- an index that is counted from a place on
pub key_from : (keys : List (List ℕ)) (key : List ℕ) (next index : ℕ) → next ≤ length keys
    → Some index ≡ position (λ other. bytes_eq other key) (take (length keys - next) (drop next keys))
    → (next + index < length keys) × (get_or keys (next + index) [] ≡ key)
key_from keys key next index within found =
    let at = key_at (drop next keys) key index (found ∙ ap (λ xs. position (λ other. bytes_eq other key) xs) (take_rest keys next)) in
    (omega (arith, at.0, length-drop next keys, within), sym (get_or-drop next keys index []) ∙ at.1)

-- the key that a first line announces is the word after `VALUE`
pub head_word : (arguments word : List ℕ) (more : List (List ℕ)) (key : List ℕ) (flags size : ℕ) (cas : Option ℕ)
    → words arguments ≡ word ∷ more → IsHead (value_line arguments) key flags size cas → key ≡ word
head_word arguments word more key flags size cas first head =
    let same : key ∷ head.flags_word ∷ head.size_word ∷ head.cas_words ≡ word ∷ more = sym head.words_are ∙ first in cc

-- the key had a value before
pub had_before : (keys : List (List ℕ)) (unique : Bool) (places : List ValuePlace) (arguments word : List ℕ) (more : List (List ℕ))
    → words arguments ≡ word ∷ more → list_any (λ (place : ValuePlace). bytes_eq place.key word) places ≡ true
    → NotAwaited keys unique (keys_at places) (value_line arguments)
had_before keys unique places arguments word more first had key flags size cas head awaited =
    let same = head_word arguments word more key flags size cas first head in
    both_ways (is_among (keys_at places) key) awaited.1
    (ap (is_among (keys_at places)) same ∙ sym (keys_among places word) ∙ had)

-- the line announces no value of the word after `VALUE`
pub none_announced : (keys : List (List ℕ)) (unique : Bool) (had : List (List ℕ)) (arguments word : List ℕ) (more : List (List ℕ))
    → words arguments ≡ word ∷ more → NoHead (value_line arguments) word unique → NotAwaited keys unique had (value_line arguments)
none_announced keys unique had arguments word more first none key flags size cas head awaited =
    let same = head_word arguments word more key flags size cas first head in
    none flags size cas awaited.2 (subst (λ (k : List ℕ). IsHead (value_line arguments) k flags size cas) same head)

-- the key was asked for, and had no value before
pub is_awaited : (keys : List (List ℕ)) (unique : Bool) (places : List ValuePlace) (word : List ℕ) (index : ℕ) (cas : Option ℕ)
    → index < length keys → get_or keys index [] ≡ word
    → list_any (λ (place : ValuePlace). bytes_eq place.key word) places ≡ false → is_some cas ≡ unique
    → IsValueAwaited keys unique (keys_at places) (get_or keys index []) cas
is_awaited keys unique places word index cas below at none unique_is =
    rw at (
      list_any_at (λ other. bytes_eq other word) keys index [] below ((bytes_eq-Decides (get_or keys index []) word).1 at),
      sym (keys_among places word) ∙ none,
      unique_is,
    )
