-- Laws of what is given on of what a client sends.
use Rattle.std.proofs.Common.{◌≡◌, ◌++◌, ℕ, Bool, true, false, List, [], refl, sym, subst, append-nil, append_assoc}
use Rattle.std.specs.Bool.{OnFalse, OnTrue}
use Rattle.tko_port.specs.declared.first_byte.FirstByte.{FirstByte}
use Rattle.tko_port.specs.FirstBytes.{IsTextGiven, is_binary}
use Rattle.tko_threads.specs.declared.attended.Attended.{Attended}
use Rattle.tko_threads.specs.ClientEnds.{GivesMore, GivesOn}

stays_true : (binary : Bool) → OnTrue binary (binary ≡ true)
stays_true true = refl
stays_true false = tt

on_false : (binary : Bool) {A : Type 0} → A → OnFalse binary A
on_false true is = tt
on_false false is = is

stays_on : (a b c : Bool) → OnTrue a (b ≡ true) → OnTrue b (c ≡ true) → OnTrue a (c ≡ true)
stays_on false b c first second = tt
stays_on true true c first second = second
stays_on true false c first second = absurd (let f : ⊥ = cc first in f)

gave_on : (b c : Bool) {A B C : Type 0} → (A → B → C) → OnTrue b (c ≡ true) → OnFalse b A
    → OnFalse c B → OnFalse c C
gave_on b true on stays first second = tt
gave_on false false on stays first second = on first second
gave_on true false on stays first second = absurd (let f : ⊥ = cc stays in f)

-- nothing came
pub gives_no_more : (first : FirstByte) → GivesMore first [] first
gives_no_more first = record {
  given = λ before is. subst (λ (xs : List ℕ). IsTextGiven first xs) (sym (append-nil before)) is;
  stays = stays_true (is_binary first);
}

-- what came in two parts came as a whole
pub gives_twice : (a b c : FirstByte) (bytes more : List ℕ) → GivesMore a bytes b
    → GivesMore b more c → GivesMore a (bytes ++ more) c
gives_twice a b c bytes more first second = record {
  given = λ before is. subst (λ (xs : List ℕ). IsTextGiven c xs) (append_assoc before bytes more)
      (second.given (before ++ bytes) (first.given before is));
  stays = stays_on (is_binary a) (is_binary b) (is_binary c) first.stays second.stays;
}

module _ {I M : Type 0} (gives : I → List ℕ → I → Type 0) where
  pub gives_nothing : (x : Attended I M) → gives x.inner [] x.inner → GivesOn gives x [] x
  gives_nothing x nothing = record {
    more = gives_no_more x.first;
    gave = on_false (is_binary x.first) nothing;
  }

  pub gives_on : (x y z : Attended I M) (bytes more : List ℕ)
      → (gives x.inner bytes y.inner → gives y.inner more z.inner
      → gives x.inner (bytes ++ more) z.inner)
      → GivesOn gives x bytes y → GivesOn gives y more z → GivesOn gives x (bytes ++ more) z
  gives_on x y z bytes more on first second = record {
    more = gives_twice x.first y.first z.first bytes more first.more second.more;
    gave = gave_on (is_binary y.first) (is_binary z.first) on second.more.stays first.gave
        second.gave;
  }
