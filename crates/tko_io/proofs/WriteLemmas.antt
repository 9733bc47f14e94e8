-- Writes one after another, and their counts.
use Rattle.std.proofs.Common.{◌≡◌, ℕ, ◌+◌, List, [], ◌++◌, length, sym, ap, subst, ◌∙◌, append-nil, length-append, arith, add-zero}
use Rattle.tko_bytes.specs.Numbers.{capped}
use Rattle.tko_io.specs.Io.{Writes}

-- counts that stop at the same number may be added one after another
pub capped-more : (a b c n m : ℕ) → capped b ≡ capped (a + n) → capped c ≡ capped (b + m) → capped c ≡ capped (a + (n + m))
capped-more a b c n m first second = omega arith

module _ {O : Type 0} {takes : O → List ℕ → O → Type 0} where
  -- two writes are one
  pub writes_append : ((x y z : O) (bytes more : List ℕ) → takes x bytes y → takes y more z → takes x (bytes ++ more) z)
      → {x y z : O} {text more : List ℕ} {a b c : ℕ} → Writes takes (x, a) text (y, b) → Writes takes (y, b) more (z, c)
      → Writes takes (x, a) (text ++ more) (z, c)
  writes_append goes_on {x} {y} {z} {text} {more} {a} {b} {c} front back = record {
    output = goes_on x y z text more front.output back.output;
    counted =
        capped-more a b c (length text) (length more) front.counted back.counted
        ∙ ap (λ n. capped (a + n)) (sym (length-append text more));
  }

  -- some more of a text was written
  pub writes_some : ((x y z : O) (bytes more : List ℕ) → takes x bytes y → takes y more z → takes x (bytes ++ more) z)
      → {x y z : O} {text more : List ℕ} {a b c : ℕ} → Writes takes (x, a) text (y, b) → takes y more z
      → capped c ≡ capped (b + length more) → Writes takes (x, a) (text ++ more) (z, c)
  writes_some goes_on front took counted = writes_append goes_on front (record { output = took; counted = counted })

  -- nothing more was written
  pub writes_failed : ((x y z : O) (bytes more : List ℕ) → takes x bytes y → takes y more z → takes x (bytes ++ more) z)
      → {x y z : O} {text : List ℕ} {a b : ℕ} → Writes takes (x, a) text (y, b) → takes y [] z → Writes takes (x, a) text (z, b)
  writes_failed goes_on {x} {y} {z} {text} front nothing = record {
    output = subst (λ bytes. takes x bytes z) (append-nil text) (goes_on x y z text [] front.output nothing);
    counted = front.counted;
  }

  pub writes_none : (x : O) (a : ℕ) → takes x [] x → Writes takes (x, a) [] (x, a)
  writes_none x a nothing = record { output = nothing; counted = ap capped (sym (add-zero a)) }
