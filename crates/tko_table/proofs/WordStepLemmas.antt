-- Each exchange of a word, and each change of a soft word, is the core's step on what the word
-- holds.
use Rattle.std.proofs.Common.{◌≡◌, ℕ, ◌+◌, ◌-◌, ◌%◌, ◌^◌, ◌<◌, Bool, true, false, cond, eqb, List}
use Rattle.std.proofs.Common.{length, get_or, set, All, refl, sym, ap, ◌∙◌, subst, arith, inl, inr}
use Rattle.std.proofs.lemmas.Bool.{cases_Bool, cond-false, cond-true, eqb-true}
use Rattle.std.proofs.lemmas.List.{length-map}
use Rattle.std.proofs.lemmas.List.Elements.{All-set}
use prog.Atomic.{either}
use Rattle.tko_model.specs.declared.mark.Mark.{Mark}
use Rattle.tko_model.specs.Settings.{Settings}
use Rattle.tko_model.specs.declared.state.ServerState.{ServerState}
use Rattle.tko_model.specs.Groups.{group_of}
use Rattle.tko_model.specs.Tracker.{server_at}
use Rattle.tko_word.specs.Words.{IsWord, firm_in, held_in, server_in}
use Rattle.tko_steps.specs.Steps.{slots_written}
use Rattle.tko_steps.specs.declared.phase.Slots.{Slots}
use Rattle.tko_steps.specs.declared.table.Action.{Action}
use Rattle.tko_steps.specs.declared.table.Action.TheVariants as action
use Rattle.tko_steps.specs.declared.table.Observed.TheVariants as read
use Rattle.tko_steps.specs.Core.{Shared, seen_by, shared_after}
use Rattle.tko_steps.specs.StepNeeds.{CanAct, CanShift, CanShiftIn}
use Rattle.tko_steps.specs.Core.{slots_at, slots_in}
use Rattle.tko_steps.specs.Table.{same_server, same_slots}
use Rattle.tko_table.specs.Rule.{health_in, health_place, shared_in, soft_place}
use Rattle.tko_table.specs.Steps.{read_in}
use Rattle.tko_table.proofs.SharedLemmas.{given-is, health-get, health-set, health-soft}
use Rattle.tko_table.proofs.SharedLemmas.{loosened-is, server-there, set-same, settled-is}
use Rattle.tko_table.proofs.SharedLemmas.{shared-health, shared-soft, slots-expected, slots-there}
use Rattle.tko_table.proofs.SharedLemmas.{word-expected}
use Rattle.tko_table.proofs.StepLemmas.{IsStepOn}

-- ---- exchanges

pub exchanges : (s : Settings) (words : List ℕ) (server expected new : ℕ) (found : ServerState)
    (mark : Mark) → All IsWord (health_in s words)
    → server < length (shared_in s words).servers → IsWord expected → server_in expected ≡ found
    → IsWord new → server_in new ≡ record { mark = mark; stamp = found.stamp + 1 }
    → IsStepOn s words
    (set words (health_place server) (either (eqb (get_or words (health_place server) 0) expected)
    new (get_or words (health_place server) 0)))
    server (action.Exchange found mark) (get_or words (health_place server) 0)
exchanges s words server expected new found mark valid inside is_expected expects is_new leaves =
    let n = get_or words (health_place server) 0 in
    let servers = (shared_in s words).servers in
    let left_server : ServerState = record { mark = mark; stamp = found.stamp + 1 } in
    let there : server_at servers server ≡ server_in n = server-there s words server inside in
    let in_health : server < length (health_in s words) =
    omega (arith, inside, length-map (health_in s words) server_in) in
    let is_n : IsWord n =
    subst IsWord (sym (health-get s words server in_health)) (valid server 0 in_health) in
    let tests : eqb n expected ≡ same_server (server_at servers server) found =
    word-expected n expected found is_n is_expected expects
    ∙ ap (λ (it : ServerState). same_server it found) (sym there) in
    let reads = ap (λ (it : ServerState). read.Done (same_server it found)) there in
    let P : Bool → Type 0 = λ test. IsStepOn s words (set words (health_place server)
    (either test new n)) server (action.Exchange found mark) n in
    elim (cases_Bool (eqb n expected)) as (λ test. P (eqb n expected)) [
      | inl won ↦
          let same : same_server (server_at servers server) found ≡ true = sym tests ∙ won in
          let servers_are : set servers server (server_in new)
          ≡ cond (same_server (server_at servers server) found)
          (set servers server left_server) servers =
          ap (set servers server) leaves ∙ sym (cond-true _ _ _ same) in
          subst P (sym won) (record {
            left = shared-health s words server new inside
                ∙ (λ i. record {
                  servers = servers_are i;
                  slots = (shared_in s words).slots;
                  enrolled = (shared_in s words).enrolled;
                });
            valid = subst (All IsWord) (sym (health-set s words server new))
                (All-set IsWord (health_in s words) server new is_new valid);
            reads = reads;
          })
      | inr lost ↦
          let same : same_server (server_at servers server) found ≡ false = sym tests ∙ lost in
          let kept = set-same words (health_place server) in
          let servers_are : servers ≡ cond (same_server (server_at servers server) found)
          (set servers server left_server) servers =
          sym (cond-false _ _ _ same) in
          subst P (sym lost) (record {
            left = ap (shared_in s) kept
                ∙ (λ i. record {
                  servers = servers_are i;
                  slots = (shared_in s words).slots;
                  enrolled = (shared_in s words).enrolled;
                });
            valid = subst (λ it. All IsWord (health_in s it)) (sym kept) valid;
            reads = reads;
          })
    ]

reserved-is : (word : ℕ) → word < 2 ^ 64 → held_in word + 1 < 2 ^ 32
    → (firm_in ((word + 4294967296) % 2 ^ 64) ≡ firm_in word)
    × (held_in ((word + 4294967296) % 2 ^ 64) ≡ held_in word + 1)
unfolding firm_in held_in
reserved-is word fits room = (omega arith, omega arith)

-- ---- the soft words

-- the number in the soft word of the group of a server
abbrev pub soft_number : Settings → List ℕ → ℕ → ℕ
soft_number s words server = get_or words (soft_place s (group_of s server)) 0

-- a change of the soft word of its group that leaves these counts
on-soft : (s : Settings) (words : List ℕ) (server new : ℕ) (after : Slots) (act : Action)
    (found : ℕ) → All IsWord (health_in s words)
    → slots_in new ≡ after
    → (let all = (shared_in s words).slots in
    record {
      servers = (shared_in s words).servers;
      slots = set all (group_of s server) after;
      enrolled = (shared_in s words).enrolled;
    }
    ≡ shared_after s (shared_in s words) server act)
    → seen_by s (shared_in s words) server act ≡ read_in act found
    → IsStepOn s words (set words (soft_place s (group_of s server)) new) server act found
on-soft s words server new after act found valid leaves is reads =
    let group = group_of s server in
    let all = (shared_in s words).slots in
    record {
      left = shared-soft s words group new
          ∙ (λ i. record {
            servers = (shared_in s words).servers;
            slots = set all group (leaves i);
            enrolled = (shared_in s words).enrolled;
          }) ∙ is;
      valid = subst (All IsWord) (sym (health-soft s words group new)) valid;
      reads = reads;
    }

slots_are : (new firm held : ℕ) → firm_in new ≡ firm → held_in new ≡ held
    → slots_in new ≡ record { firm = firm; held = held }
slots_are new firm held one other = λ i. record { firm = one i; held = other i }

module _ (s : Settings) (words : List ℕ) (server : ℕ) (valid : All IsWord (health_in s words))
    (fits : soft_number s words server < 2 ^ 64) where
  abbrev n : ℕ
  n = soft_number s words server

  abbrev group : ℕ
  group = group_of s server

  abbrev all : List Slots
  all = (shared_in s words).slots

  abbrev now : Slots
  now = slots_at all group

  -- the words with these counts in that one
  abbrev with_counts : Slots → Shared
  with_counts after = record {
    servers = (shared_in s words).servers;
    slots = set all group after;
    enrolled = (shared_in s words).enrolled;
  }

  -- the words with what the step leaves of the counts
  written : (act : Action) (after : Slots) → group < length all
      → after ≡ slots_written act (slots_in n)
      → with_counts after ≡ with_counts (slots_written act now)
  written act after there is =
      ap with_counts (is ∙ ap (slots_written act) (sym (slots-there s words group there)))

  -- what the step needs, of the number
  abbrev CanOn : Action → Type 0
  CanOn act = CanShift (slots_in n) act

  can-on : (act : Action) → CanShiftIn all group act → CanOn act
  can-on act can = subst (λ it. CanShift it act) (slots-there s words group can.0) can.1

  pub settles : CanAct s (shared_in s words) server action.Settle
      → IsStepOn s words (set words (soft_place s group) ((n + (2 ^ 64 - 4294967295)) % 2 ^ 64))
      server action.Settle n
  settles can =
      let on = can-on action.Settle can in
      let is = settled-is n fits on.0 on.1 in
      on-soft s words server _ (record { firm = firm_in n + 1; held = held_in n - 1 }) action.Settle
      n valid (slots_are _ _ _ is.0 is.1)
      (written action.Settle _ can.0 refl) refl

  pub loosens : CanAct s (shared_in s words) server action.Loosen
      → IsStepOn s words (set words (soft_place s group) ((n + 4294967295) % 2 ^ 64)) server
      action.Loosen n
  loosens can =
      let on = can-on action.Loosen can in
      let is = loosened-is n fits on.0 on.1 in
      on-soft s words server _ (record { firm = firm_in n - 1; held = held_in n + 1 }) action.Loosen
      n valid (slots_are _ _ _ is.0 is.1)
      (written action.Loosen _ can.0 refl) refl

  pub gives : CanAct s (shared_in s words) server action.Give
      → IsStepOn s words (set words (soft_place s group) ((n + (2 ^ 64 - 4294967296)) % 2 ^ 64))
      server action.Give n
  gives can =
      let is = given-is n fits (can-on action.Give can) in
      on-soft s words server _ (record { firm = firm_in n; held = held_in n - 1 }) action.Give n
      valid (slots_are _ _ _ is.0 is.1)
      (written action.Give _ can.0 refl) refl

  pub reserves : (expected : ℕ) (slots : Slots)
      → CanAct s (shared_in s words) server (action.Reserve slots) → slots_in expected ≡ slots
      → IsStepOn s words (set words (soft_place s group)
      (either (eqb n expected) ((expected + 4294967296) % 2 ^ 64) n)) server
      (action.Reserve slots) n
  reserves expected slots can expects =
      let new = (expected + 4294967296) % 2 ^ 64 in
      let there = slots-there s words group can.0 in
      let on = can-on (action.Reserve slots) can in
      let one_more : Slots = record { firm = firm_in n; held = held_in n + 1 } in
      let tests : eqb n expected ≡ same_slots now slots =
      slots-expected n expected slots expects ∙ ap (λ it. same_slots it slots) (sym there) in
      let reads : seen_by s (shared_in s words) server (action.Reserve slots)
      ≡ read_in (action.Reserve slots) n =
      ap (λ it. read.Done (same_slots it slots)) there in
      let P : Bool → Type 0 = λ test. IsStepOn s words (set words (soft_place s group)
      (either test new n)) server (action.Reserve slots) n in
      let after = slots_written (action.Reserve slots) now in
      let Q : Bool → Type 0 = λ test. with_counts after ≡ record {
        servers = (shared_in s words).servers;
        slots = cond test (set all group after) all;
        enrolled = (shared_in s words).enrolled;
      } in
      elim (cases_Bool (eqb n expected)) as (λ test. P (eqb n expected)) [
        | inl won ↦
            let same : n ≡ expected = eqb-true n expected won in
            let is = reserved-is n fits on in
            let leaves : slots_in new ≡ one_more =
            ap (λ it. slots_in ((it + 4294967296) % 2 ^ 64)) (sym same)
            ∙ slots_are _ _ _ is.0 is.1 in
            subst P (sym won)
            (on-soft s words server new one_more (action.Reserve slots) n valid leaves
            (written (action.Reserve slots) one_more can.0 refl
            ∙ subst Q (sym (sym tests ∙ won)) refl) reads)
        | inr lost ↦
            let kept = set-same words (soft_place s group) in
            let stays : all ≡ cond (same_slots now slots) (set all group after) all =
            sym (cond-false _ _ _ (sym tests ∙ lost)) in
            subst P (sym lost) (record {
              left = ap (shared_in s) kept
                  ∙ (λ i. record {
                    servers = (shared_in s words).servers;
                    slots = stays i;
                    enrolled = (shared_in s words).enrolled;
                  });
              valid = subst (λ it. All IsWord (health_in s it)) (sym kept) valid;
              reads = reads;
            })
      ]
