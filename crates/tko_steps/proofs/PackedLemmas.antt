-- The steps on packed words: what a word holds after a step is what the step leaves of what it held.
use Rattle.std.proofs.Common.{◌≡◌, ℕ, ◌+◌, ◌-◌, ◌^◌, ◌<◌, Bool, true, false, cond, eqb, refl, sym, ap, ◌∙◌, subst, inl, inr, arith}
use Rattle.std.proofs.lemmas.Bool.{cases_Bool, eq-eqb, eqb-true, ne_eqb}
use Rattle.tko_model.specs.declared.mark.Mark.{Mark}
use Rattle.tko_model.specs.declared.state.ServerState.{ServerState}
use Rattle.tko_word.specs.Words.{IsMark, IsWord, firm_in, health_word, held_in, one_slot, server_in, slot_over_mark, soft_word, stamp_end, word_minus, word_plus}
use Rattle.tko_word.proofs.SoftLemmas.{firm_in-lt, firm_in-soft_word, held_in-soft_word, soft_word-give, soft_word-loosen, soft_word-settle, soft_word_of}
use Rattle.tko_word.proofs.WordLemmas.{server_in-health_word, server_in_same}
use Rattle.tko_steps.specs.declared.phase.Slots.{Slots}
use Rattle.tko_steps.specs.declared.table.Action.TheVariants.{Exchange, Give, Loosen, Reserve, Settle}
use Rattle.tko_steps.specs.Core.{slots_in}
use Rattle.tko_steps.specs.Steps.{server_after, slots_after}
use Rattle.tko_steps.specs.Table.{same_server, same_slots}
use Rattle.tko_steps.proofs.TableLemmas.{eq-same_server, same_server-true, same_slots-true}

slots_is : (word firm held : ℕ) → firm_in word ≡ firm → held_in word ≡ held → slots_in word ≡ record { firm = firm; held = held }
slots_is word firm held firms helds =
    ap (λ n. let it : Slots = record { firm = n; held = held_in word } in it) firms
    ∙ ap (λ n. let it : Slots = record { firm = firm; held = n } in it) helds

pub slots_in-soft_word : (firm held : ℕ) → firm < 2 ^ 32 → slots_in (soft_word firm held) ≡ record { firm = firm; held = held }
slots_in-soft_word firm held low =
    slots_is (soft_word firm held) firm held (firm_in-soft_word firm held low) (held_in-soft_word firm held low)

-- ---- health words

-- the word of what an exchange expects and a word are one exactly where they hold the same
found-same : (word : ℕ) (found : ServerState) → IsWord word → IsMark found.mark → found.stamp < stamp_end
    → eqb word (health_word found.mark found.stamp) ≡ same_server (server_in word) found
found-same word found is mark stamp =
    let expected = health_word found.mark found.stamp in
    let holds : server_in expected ≡ found = server_in-health_word found.mark found.stamp mark in
    let valid : IsWord expected = record { mark = found.mark; stamp = found.stamp; allowed = mark; below = stamp; is = refl } in
    elim (cases_Bool (same_server (server_in word) found)) [
      | inl same ↦
          let one = server_in_same word expected is valid (same_server-true (server_in word) found same ∙ sym holds) in
          eq-eqb word expected one ∙ sym same
      | inr apart ↦
          ne_eqb word expected (λ e.
          let same = eq-same_server (server_in word) found (ap server_in e ∙ holds) in cc)
          ∙ sym apart
    ]

exchanged-by : (word : ℕ) (found : ServerState) (mark : Mark) (test : Bool) → IsMark mark
    → server_in (cond test (health_word mark (found.stamp + 1)) word)
    ≡ cond test (record { mark = mark; stamp = found.stamp + 1 }) (server_in word)
exchanged-by word found mark true is = server_in-health_word mark (found.stamp + 1) is
exchanged-by word found mark false is = refl

-- an exchange of the packed word
pub exchange-packed : (word : ℕ) (found : ServerState) (mark : Mark) → IsWord word → IsMark found.mark → found.stamp < stamp_end → IsMark mark
    → server_in (cond (eqb word (health_word found.mark found.stamp)) (health_word mark (found.stamp + 1)) word)
    ≡ server_after (Exchange found mark) (server_in word)
exchange-packed word found mark is expects low allowed =
    let new : ServerState = record { mark = mark; stamp = found.stamp + 1 } in
    exchanged-by word found mark (eqb word (health_word found.mark found.stamp)) allowed
    ∙ ap (λ test. cond test new (server_in word)) (found-same word found is expects low)

-- ---- the soft word

soft-same : (word : ℕ) (slots : Slots) → slots.firm < 2 ^ 32 → eqb word (soft_word slots.firm slots.held) ≡ same_slots (slots_in word) slots
soft-same word slots low =
    let expected = soft_word slots.firm slots.held in
    elim (cases_Bool (same_slots (slots_in word) slots)) [
      | inl same ↦
          let both = same_slots-true (slots_in word) slots same in
          let one : word ≡ expected = sym (soft_word_of word) ∙ ap (λ n. soft_word n (held_in word)) both.0 ∙ ap (λ n. soft_word slots.firm n) both.1 in
          eq-eqb word expected one ∙ sym same
      | inr apart ↦
          ne_eqb word expected (λ e.
          let held : slots_in word ≡ slots = ap slots_in e ∙ slots_in-soft_word slots.firm slots.held low in
          let same : same_slots (slots_in word) slots ≡ true = same_slots-from (slots_in word) slots held in cc)
          ∙ sym apart
    ]
  where
    same_slots-from : (one other : Slots) → one ≡ other → same_slots one other ≡ true
    same_slots-from one other e = subst (λ it. same_slots one it ≡ true) e (rw (eq-eqb one.firm one.firm refl, eq-eqb one.held one.held refl) refl)

reserved-by : (word : ℕ) (slots : Slots) (test : Bool) → slots.firm < 2 ^ 32 → (test ≡ true → slots_in word ≡ slots)
    → slots_in (cond test (soft_word slots.firm (slots.held + 1)) word)
    ≡ cond test (record { firm = firm_in word; held = held_in word + 1 }) (slots_in word)
reserved-by word slots true low same =
    let one_more : Slots → Slots = λ it. record { firm = it.firm; held = it.held + 1 } in
    slots_in-soft_word slots.firm (slots.held + 1) low ∙ ap one_more (sym (same refl))
reserved-by word slots false low same = refl

-- a reservation in the packed word
pub reserve-packed : (word : ℕ) (slots : Slots) → slots.firm < 2 ^ 32
    → slots_in (cond (eqb word (soft_word slots.firm slots.held)) (soft_word slots.firm (slots.held + 1)) word)
    ≡ slots_after (Reserve slots) (slots_in word)
reserve-packed word slots low =
    let one_more : Slots = record { firm = firm_in word; held = held_in word + 1 } in
    reserved-by word slots (eqb word (soft_word slots.firm slots.held)) low
    (λ e. ap slots_in (eqb-true word (soft_word slots.firm slots.held) e) ∙ slots_in-soft_word slots.firm slots.held low)
    ∙ ap (λ test. cond test one_more (slots_in word)) (soft-same word slots low)

pub settle-packed : (word : ℕ) → firm_in word + 1 < 2 ^ 32 → 0 < held_in word → held_in word < 2 ^ 32
    → slots_in (word_minus word slot_over_mark) ≡ slots_after Settle (slots_in word)
settle-packed word few some fits =
    ap (λ it. slots_in (word_minus it slot_over_mark)) (sym (soft_word_of word))
    ∙ ap slots_in (soft_word-settle (firm_in word) (held_in word) few some fits)
    ∙ slots_in-soft_word (firm_in word + 1) (held_in word - 1) few

pub loosen-packed : (word : ℕ) → 0 < firm_in word → held_in word + 1 < 2 ^ 32
    → slots_in (word_plus word slot_over_mark) ≡ slots_after Loosen (slots_in word)
loosen-packed word some few =
    let low = firm_in-lt word in
    ap (λ it. slots_in (word_plus it slot_over_mark)) (sym (soft_word_of word))
    ∙ ap slots_in (soft_word-loosen (firm_in word) (held_in word) some low few)
    ∙ slots_in-soft_word (firm_in word - 1) (held_in word + 1) (omega (arith, low))

pub give-packed : (word : ℕ) → 0 < held_in word → held_in word < 2 ^ 32
    → slots_in (word_minus word one_slot) ≡ slots_after Give (slots_in word)
give-packed word some fits =
    let low = firm_in-lt word in
    ap (λ it. slots_in (word_minus it one_slot)) (sym (soft_word_of word))
    ∙ ap slots_in (soft_word-give (firm_in word) (held_in word) low some fits)
    ∙ slots_in-soft_word (firm_in word) (held_in word - 1) low
