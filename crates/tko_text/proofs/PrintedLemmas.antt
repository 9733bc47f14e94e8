-- The words of a printed line, and what they are parsed as.
use Rattle.std.proofs.Common.{ℕ, ◌<◌, ◌^◌, ℤ, pos, negsuc, suc, Bool, true, false, List, [], ◌∷◌, ◌++◌, length, refl, arith}
use Rattle.std.specs.Fmt.{decimal, signed_decimal}
use Rattle.std.specs.List.{All}
use Rattle.std.specs.Prelude.{codes}
use Rattle.std.proofs.lemmas.Fmt.{decimal_is_IsNumeral}
use Rattle.std.proofs.lemmas.List.Elements.{All-cons, All-from_get_or, All-nil, All-weaker}
use Rattle.std.proofs.lemmas.Str.Parse.{digit_at}
use Rattle.tko_text.specs.declared.request.Entry.{Entry}
use Rattle.tko_text.specs.declared.request.Request.{Request}
use Rattle.tko_text.specs.declared.request.Request.TheVariants.{Get, Gets, Store, Cas, Delete, Incr, Decr, Touch, Version, Quit, StatsTko}
use Rattle.tko_text.specs.declared.request.Verb.{Verb}
use Rattle.tko_text.specs.declared.request.Verb.TheVariants.{Set, Add, Replace, Append, Prepend}
use Rattle.tko_text.specs.Keys.{IsKey, IsKeyByte}
use Rattle.tko_text.specs.Printed.{IsEntry, IsExpiry, IsRequest}
use Rattle.tko_text.specs.Requests.{entry_words, noreply_words, printed_words, verb_word}
use Rattle.tko_text.proofs.JoinedLemmas.{IsPlain, plain_by}

-- words of each sort have no space and no control character
plain-decimal : (n : ℕ) → n < 2 ^ 64 → IsPlain (decimal n)
plain-decimal n small =
    let is = decimal_is_IsNumeral n small in record {
      some = is.0.0;
      each = All-from_get_or (λ b. 32 < b) (decimal n) 0 (λ i h. let d = digit_at (decimal n) i is.0.1 h in omega (arith, d.0));
    }

plain-key : (key : List ℕ) → IsKey key → IsPlain key
plain-key key is = record {
  some = is.some;
  each = All-weaker IsKeyByte (λ b. 32 < b) (λ b h. h.0) key is.each;
}

plain-expiry : (z : ℤ) → IsExpiry z → IsPlain (signed_decimal z)
plain-expiry (pos n) is = plain-decimal n (omega (arith, is))
plain-expiry (negsuc n) is =
    let digits = plain-decimal (suc n) (omega (arith, is)) in record {
      some = omega arith;
      each = All-cons (λ b. 32 < b) 45 (decimal (suc n)) (omega arith) digits.each;
    }

plain-noreply : (quiet : Bool) → All IsPlain (noreply_words quiet)
plain-noreply true = All-cons IsPlain (codes "noreply") [] (plain_by (codes "noreply") refl) (All-nil IsPlain)
plain-noreply false = All-nil IsPlain

plain-verb : (verb : Verb) → IsPlain (verb_word verb)
plain-verb Set = plain_by (codes "set") refl
plain-verb Add = plain_by (codes "add") refl
plain-verb Replace = plain_by (codes "replace") refl
plain-verb Append = plain_by (codes "append") refl
plain-verb Prepend = plain_by (codes "prepend") refl

plain-two : (one two : List ℕ) (rest : List (List ℕ)) → IsPlain one → IsPlain two → All IsPlain rest → All IsPlain (one ∷ two ∷ rest)
plain-two one two rest p q all = All-cons IsPlain one (two ∷ rest) p (All-cons IsPlain two rest q all)

plain-entry : (word : List ℕ) (entry : Entry) (rest : List (List ℕ)) → IsPlain word → IsEntry entry → All IsPlain rest
    → All IsPlain (word ∷ entry_words entry ++ rest)
plain-entry word entry rest p is all =
    plain-two word entry.key (decimal entry.flags ∷ signed_decimal entry.expiry ∷ decimal (length entry.value) ∷ rest) p (plain-key entry.key is.key)
    (plain-two (decimal entry.flags) (signed_decimal entry.expiry) (decimal (length entry.value) ∷ rest)
    (plain-decimal entry.flags (omega (arith, is.flags))) (plain-expiry entry.expiry is.expiry)
    (All-cons IsPlain (decimal (length entry.value)) rest (plain-decimal (length entry.value) (omega (arith, is.value))) all))

-- and so have all words of a printed line
pub plain-printed : (request : Request) → IsRequest request → All IsPlain (printed_words request)
plain-printed (Get keys) is =
    All-cons IsPlain (codes "get") keys (plain_by (codes "get") refl) (All-weaker IsKey IsPlain plain-key keys is.each)
plain-printed (Gets keys) is =
    All-cons IsPlain (codes "gets") keys (plain_by (codes "gets") refl) (All-weaker IsKey IsPlain plain-key keys is.each)
plain-printed (Store verb entry quiet) is =
    plain-entry (verb_word verb) entry (noreply_words quiet) (plain-verb verb) is (plain-noreply quiet)
plain-printed (Cas entry unique quiet) is =
    plain-entry (codes "cas") entry (decimal unique ∷ noreply_words quiet) (plain_by (codes "cas") refl) is.0
    (All-cons IsPlain (decimal unique) (noreply_words quiet) (plain-decimal unique (omega (arith, is.1))) (plain-noreply quiet))
plain-printed (Delete key quiet) is =
    plain-two (codes "delete") key (noreply_words quiet) (plain_by (codes "delete") refl) (plain-key key is) (plain-noreply quiet)
plain-printed (Incr key amount quiet) is =
    plain-two (codes "incr") key (decimal amount ∷ noreply_words quiet) (plain_by (codes "incr") refl) (plain-key key is.0)
    (All-cons IsPlain (decimal amount) (noreply_words quiet) (plain-decimal amount (omega (arith, is.1))) (plain-noreply quiet))
plain-printed (Decr key amount quiet) is =
    plain-two (codes "decr") key (decimal amount ∷ noreply_words quiet) (plain_by (codes "decr") refl) (plain-key key is.0)
    (All-cons IsPlain (decimal amount) (noreply_words quiet) (plain-decimal amount (omega (arith, is.1))) (plain-noreply quiet))
plain-printed (Touch key expiry quiet) is =
    plain-two (codes "touch") key (signed_decimal expiry ∷ noreply_words quiet) (plain_by (codes "touch") refl) (plain-key key is.0)
    (All-cons IsPlain (signed_decimal expiry) (noreply_words quiet) (plain-expiry expiry is.1) (plain-noreply quiet))
plain-printed Version is = All-cons IsPlain (codes "version") [] (plain_by (codes "version") refl) (All-nil IsPlain)
plain-printed Quit is = All-cons IsPlain (codes "quit") [] (plain_by (codes "quit") refl) (All-nil IsPlain)
plain-printed StatsTko is =
    plain-two (codes "stats") (codes "tko") [] (plain_by (codes "stats") refl) (plain_by (codes "tko") refl) (All-nil IsPlain)
