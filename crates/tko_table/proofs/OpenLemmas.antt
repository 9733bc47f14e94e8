-- The rule holds of the words as they open, with one seat that has all passes.
use Rattle.std.proofs.Common.{◌≡◌, ℕ, zero, suc, ◌+◌, ◌<◌, List, [], ◌∷◌, ◌++◌, map, set, replicate}
use Rattle.std.proofs.Common.{All, refl, sym, ap, ◌∙◌, subst, arith, length, take, ◌-◌, ◌≤◌}
use Rattle.std.proofs.lemmas.List.{append-nil, drop_at, take_at, length-replicate, take_all}
use Rattle.std.proofs.lemmas.List.{length-set}
use Rattle.std.proofs.lemmas.List.Elements.{All-nil, All-replicate}
use Rattle.tko_model.specs.declared.mark.Mark.TheVariants.{Up}
use Rattle.tko_model.specs.Settings.{Settings}
use Rattle.tko_model.specs.Ranges.{IsWithinRanges}
use Rattle.tko_word.specs.Words.{IsWord, firm_in, held_in, server_in}
use Rattle.tko_steps.specs.declared.phase.ThreadState.TheVariants.{NotEnrolled}
use Rattle.tko_steps.specs.Core.{Shared, opened_core, opened_words, no_slots, slots_in}
use Rattle.tko_steps.specs.Invariant.{IsCore}
use Rattle.tko_steps.proofs.BeginLemmas.{IsCore-opened_core}
use Rattle.tko_table.specs.declared.pass.Change.{Change}
use Rattle.tko_table.specs.declared.pass.PassView.{PassView}
use Rattle.tko_table.specs.History.{Begins}
use Rattle.tko_table.specs.Passes.{PassOwnsItsMarks, HasItsChanges, new_pass, new_passes}
use Rattle.tko_table.specs.Rule.{IsKept, IsOpened, IsPlanned, core_in, shared_in, states_of}
use Rattle.tko_table.specs.Rule.{health_in, soft_in}
use Rattle.tko_model.specs.Groups.{groups}

map-replicate : {A B : Type 0} (f : A → B) (n : ℕ) (x : A)
    → map f (replicate n x) ≡ replicate n (f x)
map-replicate f zero x = refl
map-replicate f (suc n) x = ap (λ xs. f x ∷ xs) (map-replicate f n x)

-- the words that open: the enrolment word, the health words and the soft words
one_first : (n m word : ℕ) → suc n ≡ m → set (replicate m word) 0 0 ≡ 0 ∷ replicate n word
one_first n m word e = subst (λ k. set (replicate k word) 0 0 ≡ 0 ∷ replicate n word) e refl

pub words-resized : (s : Settings) (words old : List ℕ) (count len word soft : ℕ)
    → words ≡ take count old ++ replicate (count - len) soft
    → old ≡ set (replicate (s.servers + 1) word) 0 0 → len ≡ s.servers + 1
    → count ≡ s.servers + 1 + groups s
    → words ≡ set (replicate (s.servers + 1) word) 0 0 ++ replicate (groups s) soft
words-resized s words old count len word soft made was short long =
    let first = set (replicate (s.servers + 1) word) 0 0 in
    let size = length-set (replicate (s.servers + 1) word) 0 0 in
    let fits : length first ≤ count =
    omega (arith, size, length-replicate (s.servers + 1) word, long) in
    let more : count - len ≡ groups s = omega (arith, short, long) in
    made ∙ ap (λ it. take count it ++ replicate (count - len) soft) was
    ∙ ap (λ it. it ++ replicate (count - len) soft) (take_all count first fits)
    ∙ ap (λ n. first ++ replicate n soft) more

pub words-opened : (s : Settings) (words : List ℕ) (word soft : ℕ)
    → words ≡ set (replicate (s.servers + 1) word) 0 0 ++ replicate (groups s) soft
    → IsWord word → server_in word ≡ record { mark = Up 0; stamp = s.opening_stamp }
    → firm_in soft ≡ 0 → held_in soft ≡ 0
    → IsOpened s words
words-opened s words word soft made valid one firm held =
    let health = replicate s.servers word in
    let softs = replicate (groups s) soft in
    let all : List ℕ = 0 ∷ (health ++ softs) in
    let is : words ≡ all =
    made ∙ ap (λ it. it ++ softs) (one_first s.servers (s.servers + 1) word (omega arith)) in
    let health_is : health_in s all ≡ health =
    take_at health softs s.servers (length-replicate s.servers word) in
    let soft_is : soft_in s all ≡ softs =
    drop_at (0 ∷ health) softs (s.servers + 1)
    (let long = length-replicate s.servers word in omega (arith, long)) in
    let servers : map server_in (health_in s all)
    ≡ replicate s.servers (record { mark = Up 0; stamp = s.opening_stamp }) =
    ap (map server_in) health_is ∙ map-replicate server_in s.servers word
    ∙ ap (replicate s.servers) one in
    let none : slots_in soft ≡ no_slots = λ i. record { firm = firm i; held = held i } in
    let slots : map slots_in (soft_in s all) ≡ replicate (groups s) no_slots =
    ap (map slots_in) soft_is ∙ map-replicate slots_in (groups s) soft
    ∙ ap (replicate (groups s)) none in
    let shared : shared_in s all ≡ opened_words s =
    λ i. record { servers = servers i; slots = slots i; enrolled = 0 } in
    subst (IsOpened s) (sym is) (record {
      valid = subst (All IsWord) (sym health_is) (All-replicate IsWord s.servers word valid);
      shared = shared;
    })

pub opened-kept : (s : Settings) (words : List ℕ) → IsWithinRanges s → IsOpened s words
    → IsKept s words (new_passes s ∷ [])
opened-kept s words ranges is_opened =
    let passes = new_passes s in
    let same : passes ++ [] ≡ passes = append-nil passes in
    let threads : states_of (passes ++ []) ≡ replicate s.threads NotEnrolled =
    ap states_of same ∙ map-replicate (λ (pass : PassView). pass.state) s.threads (new_pass s) in
    let core_is : core_in s words (passes ++ []) ≡ opened_core s =
    λ i. record { settings = s; shared = is_opened.shared i; threads = threads i } in
    record {
      core = record {
        valid = is_opened.valid;
        core = subst IsCore (sym core_is) (IsCore-opened_core s ranges);
        owned = subst (All (PassOwnsItsMarks (shared_in s words).servers)) (sym same)
            (All-replicate (PassOwnsItsMarks (shared_in s words).servers) s.threads (new_pass s)
            (λ server. refl));
        settings = subst (All (λ (at : PassView). at.settings ≡ s)) (sym same)
            (All-replicate (λ (at : PassView). at.settings ≡ s) s.threads (new_pass s) refl);
      };
      history = [];
      told = record {
        replays = record { leads = ap (λ (shared : Shared). shared.servers) is_opened.shared };
        seen = subst (All (λ (at : PassView). Begins at.seen [])) (sym same)
            (All-replicate (λ (at : PassView). Begins at.seen []) s.threads (new_pass s)
            (record { rest = []; is = refl }));
        planned = subst (All (λ (at : PassView). IsPlanned s at.state)) (sym same)
            (All-replicate (λ (at : PassView). IsPlanned s at.state) s.threads (new_pass s) tt);
        drawn = All-nil (λ (change : Change). change.number < (shared_in s words).enrolled);
        mine = subst (All (HasItsChanges [])) (sym same)
            (All-replicate (HasItsChanges []) s.threads (new_pass s) refl);
      };
    }
