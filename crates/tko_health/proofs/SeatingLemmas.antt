-- Laws of the seats at a tracker: their numbers, errors beside another type of success, and releases.
use Rattle.std.proofs.Common.{◌≡◌, ℕ, zero, suc, ◌+◌, ◌<◌, List, All, subst, [], ◌∷◌, ◌++◌, Result, Err, refl, ap, arith, sym, ◌∙◌, add-one}
use Rattle.std.proofs.lemmas.List.FromFn.{get_or-range_with_len, length-range_with_len}
use Rattle.std.specs.List.{range_with_len}
use Rattle.std.proofs.lemmas.List.Elements.{All-append, All-cons, All-nil}
use Rattle.tko_model.specs.declared.mark.Op.TheVariants.{Release}
use Rattle.tko_model.specs.declared.mark.Reply.{Reply}
use Rattle.tko_model.specs.Records.{Called, HealthItem}
use Rattle.tko_model.proofs.RecordLemmas.{gains_append, gains_none, gains_push}
use Rattle.tko_health.specs.Seating.{IsReleaseItem, Leaves, ReleasesMarks}

-- equal errors, with another type beside them
pub same_error : {A B E : Type 0} {x y : E} (left right : Result A E) (one other : Result B E)
    → left ≡ Err x → right ≡ Err y → one ≡ Err x → other ≡ Err y → left ≡ right → one ≡ other
same_error {x} {y} left right one other l r o t e = let same : x ≡ y = cc in o ∙ ap Err same ∙ sym t

range_suc : (a n j : ℕ) → a + n ≡ j → range_with_len a (suc n) ≡ range_with_len a n ++ j ∷ []
range_suc a zero j e = let same : a ≡ j = omega (arith, e) in ap (λ (x : ℕ). x ∷ []) same
range_suc a (suc n) j e =
    let next : a + 1 + n ≡ j = omega (arith, e) in ap (λ xs. a ∷ xs) (range_suc (a + 1) n j next)

-- one number more
pub range_more : (n : ℕ) → range_with_len 0 (n + 1) ≡ range_with_len 0 n ++ n ∷ []
range_more n = let first : 0 + n ≡ n = omega arith in ap (range_with_len 0) (add-one n) ∙ range_suc 0 n n first

-- the numbers of all threads are those of threads
pub all_below : (n : ℕ) (numbers : List ℕ) → numbers ≡ range_with_len 0 n → All (λ x. x < n) numbers
all_below n numbers e =
    let P : List ℕ → Type 0 = λ xs. All (λ x. x < n) xs in
    let count = length-range_with_len 0 n in
    let each : All (λ x. x < n) (range_with_len 0 n) = λ k d within.
    let below : k < n = omega (arith, within, count) in
    rw (get_or-range_with_len 0 n k d below) (omega (arith, below)) in
    subst P (sym e) each

-- a worker that made no call
pub releases_none : {W : Type 0} {steps : W → HealthItem → W → Type 0} (at : W) → ReleasesMarks steps at at
releases_none at = record { items = []; each = All-nil IsReleaseItem; gains = gains_none at }

-- one more release
pub releases_more : {W : Type 0} {steps : W → HealthItem → W → Type 0} {old mid new : W} {server : ℕ} {answer : Reply}
    → ReleasesMarks steps old mid → steps mid (Called Release server answer) new → ReleasesMarks steps old new
releases_more {server} {answer} made last =
    let item : HealthItem = Called Release server answer in
    record {
      items = made.items ++ item ∷ [];
      each = All-append IsReleaseItem made.items (item ∷ []) made.each
          (All-cons IsReleaseItem item [] (record { server = server; answer = answer; is = refl }) (All-nil IsReleaseItem));
      gains = gains_push made.gains last;
    }

-- a worker that leaves at once
pub leaves_at_once : {W I : Type 0} {steps : W → HealthItem → W → Type 0} {gives_back : W → I → Type 0} {worker : W} {idle : I}
    → gives_back worker idle → Leaves steps gives_back worker idle
leaves_at_once {worker} back = record { last = worker; releases = releases_none worker; back = back }

-- a worker that made releases, and left
pub leaves_released : {W I : Type 0} {steps : W → HealthItem → W → Type 0} {gives_back : W → I → Type 0} {worker last : W} {idle : I}
    → ReleasesMarks steps worker last → gives_back last idle → Leaves steps gives_back worker idle
leaves_released {last} made back = record { last = last; releases = made; back = back }

-- a worker that made releases first
pub leaves_later : {W I : Type 0} {steps : W → HealthItem → W → Type 0} {gives_back : W → I → Type 0} {worker mid : W} {idle : I}
    → ReleasesMarks steps worker mid → Leaves steps gives_back mid idle → Leaves steps gives_back worker idle
leaves_later made left =
    record {
      last = left.last;
      releases = record {
        items = made.items ++ left.releases.items;
        each = All-append IsReleaseItem made.items left.releases.items made.each left.releases.each;
        gains = gains_append made.gains left.releases.gains;
      };
      back = left.back;
    }
