-- The printed form of a request is read as that request.
use Rattle.std.proofs.Common.{◌≡◌, ℕ, ◌-◌, ◌<◌, ◌≤◌, ℤ, pos, negsuc, suc, Bool, true, false, List, [], ◌∷◌, ◌++◌, length, refl, ap, sym, ◌∙◌, subst, arith, append_assoc, length-append, eq-eqb, ne_eqb, Some}
use Rattle.std.specs.Fmt.{decimal, signed_decimal}
use Rattle.std.specs.List.{join_with_byte, list_all}
use Rattle.std.specs.Prelude.{neg_ℤ, option_map, unwrap_or, get_or}
use Rattle.std.proofs.lemmas.Bool.{cond-true, cond-false, le-leb}
use Rattle.std.proofs.lemmas.List.{get_or_at, take_at}
use Rattle.std.proofs.lemmas.List.Elements.{All-weaker}
use Rattle.std.proofs.lemmas.List.Sums.{list_all-from_AllPass}
use Rattle.std.proofs.lemmas.Fmt.{decimal_is_IsNumeral}
use Rattle.std.proofs.lemmas.Str.Parse.{digit_at}
use Rattle.tko_bytes.specs.Lines.{carriage_return, content}
use Rattle.tko_bytes.specs.Numbers.{number_of}
use Rattle.tko_bytes.specs.Words.{space}
use Rattle.tko_bytes.proofs.NumberLemmas.{number_of-decimal}
use Rattle.tko_text.specs.declared.form.Form.TheVariants as form
use Rattle.tko_text.specs.declared.item.Item.TheVariants as item
use Rattle.tko_text.specs.declared.request.Entry.{Entry}
use Rattle.tko_text.specs.declared.request.Request.{Request}
use Rattle.tko_text.specs.declared.request.Request.TheVariants.{Get, Gets, Store, Cas, Delete, Incr, Decr, Touch, Version, Quit, StatsTko}
use Rattle.tko_text.specs.declared.request.Verb.{Verb}
use Rattle.tko_text.specs.declared.request.Verb.TheVariants.{Set, Add, Replace, Append, Prepend}
use Rattle.tko_text.specs.Commands.{ParsedLine, Asks, AwaitsData, announced, announced_by, asked_of, bad_line, cas_words, entry_with, noreply, with_data, parsed_cas, parsed_counter, parsed_storage, form_of, parsed, parsed_known, parsed_words}
use Rattle.tko_text.specs.Keys.{IsKey, is_key}
use Rattle.tko_text.specs.Limits.{data_limit, expiry_limit, flags_limit, negative_expiry_limit, number_limit}
use Rattle.tko_text.specs.Numbers.{expiry_of}
use Rattle.tko_text.specs.Printed.{AreKeys, IsEntry, IsExpiry, IsRequest, ReadAgain, printed_line}
use Rattle.tko_text.specs.Reading.{Completes, Emits, Next, by_line}
use Rattle.tko_text.specs.Requests.{entry_words, noreply_words, printed_data, printed_words, request_text, verb_word}
use Rattle.tko_text.proofs.JoinedLemmas.{unended-line, words-join}
use Rattle.tko_text.proofs.KeyLemmas.{is_key-true}
use Rattle.tko_text.proofs.LineLemmas.{keys_all}
use Rattle.tko_text.proofs.PrintedLemmas.{plain-printed}

-- a word without a minus in front
expiry_of-plain : (word : List ℕ) → 0 < length word → 48 ≤ get_or word 0 0 → expiry_of word ≡ option_map pos (number_of expiry_limit word)
expiry_of-plain [] some digit = absurd (omega arith)
expiry_of-plain (b ∷ bytes) some digit = cond-false _ _ _ (ne_eqb b 45 (λ e. omega (arith, e, digit)))

-- a printed expiry is read as that expiry
expiry_of-decimal : (z : ℤ) → IsExpiry z → expiry_of (signed_decimal z) ≡ Some z
expiry_of-decimal (pos n) is =
    let digits = decimal_is_IsNumeral n (omega (arith, is)) in
    expiry_of-plain (decimal n) digits.0.0 (digit_at (decimal n) 0 digits.0.1 digits.0.0).0
    ∙ ap (option_map pos) (number_of-decimal expiry_limit n (omega (arith, is)) is)
expiry_of-decimal (negsuc n) is =
    ap (option_map (λ k. neg_ℤ (pos k))) (number_of-decimal negative_expiry_limit (suc n) (omega (arith, is)) (omega (arith, is)))

form_of-verb : (verb : Verb) → form_of (verb_word verb) ≡ Some (form.Store verb)
unfolding form_of
form_of-verb Set = refl
form_of-verb Add = refl
form_of-verb Replace = refl
form_of-verb Append = refl
form_of-verb Prepend = refl

all_keys : (keys : List (List ℕ)) → AreKeys keys → list_all is_key keys ≡ true
all_keys keys are =
    list_all-from_AllPass is_key keys (All-weaker IsKey (λ k. is_key k ≡ true) is_key-true keys are.each)

-- what a printed line is by itself
abbrev meant : Request → ParsedLine
meant (Store verb entry quiet) =
    AwaitsData (length entry.value) (λ value. Store verb (entry_with (announced_by entry.key entry.flags entry.expiry (length entry.value)) value) quiet)
meant (Cas entry unique quiet) =
    AwaitsData (length entry.value) (λ value. Cas (entry_with (announced_by entry.key entry.flags entry.expiry (length entry.value)) value) unique quiet)
meant request = Asks request

noreply-words : (quiet : Bool) → noreply (noreply_words quiet) ≡ Some quiet
noreply-words true = refl
noreply-words false = refl

-- the printed words of an entry announce it
announced-words : (entry : Entry) (rest : List (List ℕ)) → IsEntry entry
    → announced (entry_words entry ++ rest) ≡ Some (announced_by entry.key entry.flags entry.expiry (length entry.value), rest)
announced-words entry rest is =
    rw (
      number_of-decimal flags_limit entry.flags (omega (arith, is.flags)) is.flags,
      expiry_of-decimal entry.expiry is.expiry,
      number_of-decimal number_limit (length entry.value) (omega (arith, is.value)) (omega (arith, is.value)),
    ) refl

compared-words : (unique : ℕ) (quiet : Bool) → unique ≤ number_limit → cas_words (decimal unique ∷ noreply_words quiet) ≡ Some (unique, quiet)
compared-words unique quiet few =
    rw (number_of-decimal number_limit unique (omega (arith, few)) few, noreply-words quiet) refl

awaits-data : (entry : Entry) (asked : List ℕ → Request) → IsEntry entry
    → with_data entry.key (length entry.value) asked ≡ AwaitsData (length entry.value) asked
awaits-data entry asked is = rw (is_key-true entry.key is.key, le-leb (length entry.value) data_limit is.value) refl

stored_line : (verb : Verb) (entry : Entry) (quiet : Bool) → IsEntry entry
    → unwrap_or (parsed_storage verb (entry_words entry ++ noreply_words quiet)) bad_line ≡ meant (Store verb entry quiet)
stored_line verb entry quiet is =
    rw (announced-words entry (noreply_words quiet) is, noreply-words quiet) (awaits-data entry _ is)

compared_line : (entry : Entry) (unique : ℕ) (quiet : Bool) → IsEntry entry → unique ≤ number_limit
    → unwrap_or (parsed_cas (entry_words entry ++ decimal unique ∷ noreply_words quiet)) bad_line ≡ meant (Cas entry unique quiet)
compared_line entry unique quiet is few =
    rw (announced-words entry (decimal unique ∷ noreply_words quiet) is, compared-words unique quiet few) (awaits-data entry _ is)

counted_line : (asked : List ℕ → ℕ → Bool → Request) (key : List ℕ) (amount : ℕ) (quiet : Bool) → IsKey key → amount ≤ number_limit
    → unwrap_or (parsed_counter asked (key ∷ decimal amount ∷ noreply_words quiet)) bad_line ≡ Asks (asked key amount quiet)
counted_line asked key amount quiet is few =
    rw (number_of-decimal number_limit amount (omega (arith, few)) few, noreply-words quiet, is_key-true key is) refl

parsed-stored : (verb : Verb) (entry : Entry) (quiet : Bool) → IsEntry entry
    → parsed_words (printed_words (Store verb entry quiet)) ≡ meant (Store verb entry quiet)
parsed-stored verb entry quiet is =
    ap (λ f. parsed_known f (entry_words entry ++ noreply_words quiet)) (form_of-verb verb) ∙ stored_line verb entry quiet is

parsed-printed : (request : Request) → IsRequest request → parsed_words (printed_words request) ≡ meant request
unfolding form_of
parsed-printed (Get keys) is = ap (asked_of Get) (keys_all keys keys refl (all_keys keys is) is.some)
parsed-printed (Gets keys) is = ap (asked_of Gets) (keys_all keys keys refl (all_keys keys is) is.some)
parsed-printed (Store verb entry quiet) is = parsed-stored verb entry quiet is
parsed-printed (Cas entry unique quiet) is = compared_line entry unique quiet is.0 is.1
parsed-printed (Delete key quiet) is = rw (noreply-words quiet, is_key-true key is) refl
parsed-printed (Incr key amount quiet) is = counted_line Incr key amount quiet is.0 is.1
parsed-printed (Decr key amount quiet) is = counted_line Decr key amount quiet is.0 is.1
parsed-printed (Touch key expiry quiet) is = rw (expiry_of-decimal expiry is.1, noreply-words quiet, is_key-true key is.0) refl
parsed-printed Version is = refl
parsed-printed Quit is = refl
parsed-printed StatsTko is = refl

content-push_cr : (bytes : List ℕ) → content (bytes ++ carriage_return ∷ []) ≡ bytes
content-push_cr bytes =
    let size : length (bytes ++ carriage_return ∷ []) - 1 ≡ length bytes = simp length-append (omega arith) in
    cond-true _ _ _ (eq-eqb _ carriage_return (get_or_at bytes carriage_return [] 0 _ (sym size)))
    ∙ take_at bytes (carriage_return ∷ []) _ (sym size)

-- the printed line, read
parsed-line : (request : Request) → IsRequest request → parsed (content (printed_line request)) ≡ meant request
parsed-line request is =
    ap parsed (content-push_cr (join_with_byte space (printed_words request)))
    ∙ ap parsed_words (words-join (printed_words request) (plain-printed request is))
    ∙ parsed-printed request is

-- the data that follow complete it
completes : (request : Request) → Completes (meant request) (printed_data request) (item.Request request) Next
completes (Get keys) = (refl, refl, refl)
completes (Gets keys) = (refl, refl, refl)
completes (Store verb entry quiet) = (entry.value, refl, refl, refl, refl)
completes (Cas entry unique quiet) = (entry.value, refl, refl, refl, refl)
completes (Delete key quiet) = (refl, refl, refl)
completes (Incr key amount quiet) = (refl, refl, refl)
completes (Decr key amount quiet) = (refl, refl, refl)
completes (Touch key expiry quiet) = (refl, refl, refl)
completes Version = (refl, refl, refl)
completes Quit = (refl, refl, refl)
completes StatsTko = (refl, refl, refl)

pub read_again : ReadAgain
unfolding Emits request_text
read_again request more is within = (
  request_text request,
  more,
  Next,
  refl,
  by_line (printed_line request) (printed_data request)
      (record { unended = unended-line (printed_words request) (plain-printed request is); within = within })
      (simp append_assoc)
      (subst (λ p. Completes p (printed_data request) (item.Request request) Next) (sym (parsed-line request is)) (completes request)),
  refl,
)
