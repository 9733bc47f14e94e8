-- Each pass that was opened gets a seat.
use Rattle.std.proofs.Common.{◌≡◌, ℕ, ◌+◌, ◌<◌, ◌≤◌, List, [], ◌∷◌, ◌++◌, take, drop, length}
use Rattle.std.proofs.Common.{get_or, refl, sym, ◌∙◌, subst, ⊎_elim, arith}
use Rattle.std.proofs.lemmas.Bool.{cases_lt}
use Rattle.std.proofs.lemmas.List.{get_or-append-add, get_or_append_left, length-append}
use Rattle.atomic_table.specs.declared.shared.Seat.{Seat}
use Rattle.atomic_table.specs.Seated.{TableId}
use Rattle.tko_model.specs.Settings.{Settings}
use Rattle.tko_table.specs.declared.pass.PassView.{PassView}
use Rattle.tko_table.specs.Opening.{AreSeats, HasPassesFrom, IsPassAt, IsSeatAt}
use Rattle.tko_table.specs.Steps.{view_of}
use Rattle.tko_table.proofs.OpeningLemmas.{drawn-state}

-- the first of the passes that are left, and the others
pub first-pass : (s : Settings) (place : ℕ) (view : List PassView)
    → HasPassesFrom s s.threads place view → place < s.threads
    → (pass : PassView) × (take 1 view ≡ pass ∷ []) × IsPassAt s s.threads place pass
    × HasPassesFrom s s.threads (place + 1) (drop 1 view)
first-pass s place [] has less = absurd (let count = has.count in omega arith)
first-pass s place (pass ∷ view) has less =
    (pass, refl, has.each.0, record { count = omega (arith, has.count); each = has.each.1 })

-- the last seat has one pass
pub last-pass : (s : Settings) (place : ℕ) (view : List PassView)
    → HasPassesFrom s s.threads place view → place + 1 ≡ s.threads → take 1 view ≡ view
last-pass s place [] has last = refl
last-pass s place (pass ∷ []) has last = refl
last-pass s place (pass ∷ other ∷ view) has last = absurd (let count = has.count in omega arith)

pub seat-made : (s : Settings) (table : TableId) (place : ℕ) (view : List PassView)
    (seat : Seat (Unit {0}) (List PassView)) → HasPassesFrom s s.threads place view
    → place < s.threads → seat.table_id ≡ table → seat.me.1 ≡ [] → view_of seat ≡ take 1 view
    → IsSeatAt s table place seat
seat-made s table place view seat has less same_table no_slots is =
    let first = first-pass s place view has less in
    record {
      table_id = same_table;
      slots = no_slots;
      pass = first.0;
      alone = is ∙ first.1;
      settings = first.2.settings;
      owned = first.2.owned;
      mine = first.2.mine;
      seen = first.2.seen;
      state = drawn-state s s.threads place first.0 first.2 less;
    }

pub seats-push : (s : Settings) (table : TableId) (seats : List (Seat (Unit {0}) (List PassView)))
    (seat : Seat (Unit {0}) (List PassView)) → AreSeats s table seats
    → IsSeatAt s table (length seats) seat → AreSeats s table (seats ++ seat ∷ [])
seats-push s table seats seat are is =
    record {
      each = λ place other inside.
          let long = length-append seats (seat ∷ []) in
          ⊎_elim
          (λ (less : place < length seats).
          subst (IsSeatAt s table place)
          (sym (get_or_append_left seats (seat ∷ []) other place less))
          (are.each place other less))
          (λ (le : length seats ≤ place).
          let here : length seats ≡ place = omega arith in
          let at : get_or (seats ++ seat ∷ []) (length seats + 0) other ≡ seat =
          get_or-append-add seats (seat ∷ []) 0 other in
          let P : ℕ → Type 0 = λ it. IsSeatAt s table it (get_or (seats ++ seat ∷ []) it other) in
          let Q : ℕ → Type 0 =
          λ it. IsSeatAt s table (length seats) (get_or (seats ++ seat ∷ []) it other) in
          let zero_more : length seats + 0 ≡ length seats = omega arith in
          subst P here (subst Q zero_more (subst (IsSeatAt s table (length seats)) (sym at) is)))
          (cases_lt place (length seats));
    }

pub seats-none : (s : Settings) (table : TableId) → AreSeats s table []
seats-none s table = record { each = λ place other inside. absurd (omega arith) }
