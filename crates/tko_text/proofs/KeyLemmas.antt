-- The rule of keys as a test.
use Rattle.std.proofs.Common.{◌≡◌, ℕ, Bool, IsTrue, true, false, List, Decides, sym, refl}
use Rattle.std.proofs.lemmas.Bool.{false≢true, le-leb, leb-true, and_parts, and_from, false_from_ne_true}
use Rattle.std.proofs.lemmas.Bool.Decides.{Decides-and, Decides-ltb, Decides-eqb, Decides-not}
use Rattle.std.proofs.lemmas.List.Elements.{All-weaker}
use Rattle.std.proofs.lemmas.List.Sums.{AllPass-from_list_all, list_all-from_AllPass}
use Rattle.tko_text.specs.Keys.{IsKey, IsKeyByte, is_key, is_key_byte}

is_key_byte_decides : (b : ℕ) → Decides (is_key_byte b) (IsKeyByte b)
is_key_byte_decides b =
    Decides-and _ _ (Decides-ltb 32 b) (Decides-not _ (Decides-eqb b 127))

pub is_key-true : (bytes : List ℕ) → IsKey bytes → is_key bytes ≡ true
unfolding is_key
is_key-true bytes key =
    and_from _ _ (le-leb 1 _ key.some) (and_from _ _ (le-leb _ 250 key.few)
    (list_all-from_AllPass is_key_byte bytes
    (All-weaker IsKeyByte (λ b. is_key_byte b ≡ true) (λ b h. (is_key_byte_decides b).1 h) bytes key.each)))

IsKey-true : (bytes : List ℕ) → is_key bytes ≡ true → IsKey bytes
unfolding is_key
IsKey-true bytes h =
    let parts = and_parts _ _ h in
    let more = and_parts _ _ parts.1 in
    record {
      some = leb-true 1 _ parts.0;
      few = leb-true _ 250 more.0;
      each = All-weaker (λ b. is_key_byte b ≡ true) IsKeyByte (λ b t. (is_key_byte_decides b).0 t) bytes
          (AllPass-from_list_all is_key_byte bytes more.1);
    }

pub is_key-false : (bytes : List ℕ) → (IsKey bytes → ⊥) → is_key bytes ≡ false
is_key-false bytes other = false_from_ne_true _ (λ h. other (IsKey-true bytes h))

-- a test of the rule is the rule's test
pub key_test : (b : Bool) (bytes : List ℕ) → (IsTrue b → IsKey bytes) → (IsKey bytes → IsTrue b) → b ≡ is_key bytes
key_test true bytes to from = sym (is_key-true bytes (to refl))
key_test false bytes to from = sym (is_key-false bytes (λ key. false≢true (from key)))
