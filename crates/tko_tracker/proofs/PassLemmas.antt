-- Passes: what a seat has as it opens, and what its bits say.
use Rattle.std.proofs.Common.{◌≡◌, ℕ, suc, ◌+◌, ◌<◌, ◌≤◌, ltb, List, [], ◌∷◌, ◌++◌, length, get_or}
use Rattle.std.proofs.Common.{sym, ap, ◌∙◌, subst, ⊎_elim, arith}
use Rattle.std.proofs.lemmas.Bool.{cases_lt, le-ltb}
use Rattle.std.proofs.lemmas.List.{get_or-append-add, get_or_append_left, length-append}
use Rattle.atomic_table.specs.declared.shared.Seat.{Seat}
use Rattle.atomic_table.specs.Seated.{TableId}
use Rattle.tko_model.specs.Settings.{Settings}
use Rattle.tko_steps.specs.declared.phase.ThreadState.TheVariants.{Idle}
use Rattle.tko_table.specs.declared.pass.PassView.{PassView}
use Rattle.tko_table.specs.Opening.{AreSeats, IsSeatAt}
use Rattle.tko_table.specs.Passes.{owns}
use Rattle.tko_table.specs.Steps.{view_of}
use Rattle.tko_tracker.specs.Seated.{ArePasses, IsFresh, HasIdlePass, HasOwnedPass, IsOf, Seated}
use Rattle.tko_tracker.specs.Seated.{TrackerId, first_pass, seated}
use Rattle.tko_tracker.proofs.OwnedLemmas.{is_set-past}

-- a server past the last has no bit, and no pass owns it
pub owns-past : (number : ℕ) (words : List ℕ) (seat : Seat (Unit {0}) (List PassView))
    (value : Seated) (server : ℕ) → length words ≡ 4
    → HasOwnedPass number words seat → value ≡ seated seat → 256 ≤ server
    → ltb server 256 ≡ owns value.pass.owned server
owns-past number words seat value server four has is past =
    le-ltb server 256 past ∙ sym (ap (λ (it : Seated). owns it.pass.owned server) is
    ∙ sym (has.bits.each server) ∙ is_set-past words server four past)

-- the seats that are left, from the place of the first
pub record AreSeatsFrom (s : Settings) (table : TableId) (from : ℕ)
    (seats : List (Seat (Unit {0}) (List PassView))) : Type 0 where
  pub each : (place : ℕ) (other : Seat (Unit {0}) (List PassView)) →
      place < length seats → IsSeatAt s table (from + place) (get_or seats place other)

pub seats-all : (s : Settings) (table : TableId) (seats : List (Seat (Unit {0}) (List PassView)))
    → AreSeats s table seats → AreSeatsFrom s table 0 seats
seats-all s table seats are =
    record {
      each = λ place other inside.
          subst (λ it. IsSeatAt s table it (get_or seats place other)) (omega arith)
          (are.each place other inside);
    }

pub seats-head : (s : Settings) (table : TableId) (from : ℕ)
    (seat : Seat (Unit {0}) (List PassView)) (seats : List (Seat (Unit {0}) (List PassView)))
    → AreSeatsFrom s table from (seat ∷ seats) → IsSeatAt s table from seat
seats-head s table from seat seats are =
    subst (λ it. IsSeatAt s table it seat) (let e : from + 0 ≡ from = omega arith in e)
    (are.each 0 seat (omega arith))

pub seats-tail : (s : Settings) (table : TableId) (from : ℕ)
    (seat : Seat (Unit {0}) (List PassView)) (seats : List (Seat (Unit {0}) (List PassView)))
    → AreSeatsFrom s table from (seat ∷ seats) → AreSeatsFrom s table (from + 1) seats
seats-tail s table from seat seats are =
    record {
      each = λ place other inside.
          subst (λ it. IsSeatAt s table it (get_or seats place other)) (omega arith)
          (are.each (suc place) other (omega (arith, inside)));
    }

-- the seat as it opens is that of an idle pass
pub idle-seat : (s : Settings) (table : TableId) (number : ℕ)
    (seat : Seat (Unit {0}) (List PassView)) → IsSeatAt s table number seat → number < s.threads
    → HasIdlePass number seat
idle-seat s table number seat is within =
    let first : first_pass (view_of seat) ≡ is.pass = ap first_pass is.alone in
    let settings : (first_pass (view_of seat)).settings ≡ s =
    ap (λ (pass : PassView). pass.settings) first ∙ is.settings in
    record {
      has = record {
        alone = is.alone ∙ ap (λ (pass : PassView). pass ∷ []) (sym first);
        slots = is.slots;
        idle = record {
          state = ap (λ (pass : PassView). pass.state) first ∙ is.state;
          within = subst (λ (it : Settings). number < it.threads) (sym settings) within;
        };
      };
      none = λ server.
          ap (λ owned. owns owned server) (ap (λ (pass : PassView). pass.owned) first ∙ is.owned);
    }

idle-of : (s : Settings) (table : TableId) (number : ℕ) (seat : Seat (Unit {0}) (List PassView))
    → IsSeatAt s table number seat
    → IsOf (record { settings = s; table = table }) (seated seat)
    × ((seated seat).pass.state ≡ Idle number)
idle-of s table number seat is =
    let first : first_pass (view_of seat) ≡ is.pass = ap first_pass is.alone in (
      record {
        table = is.table_id;
        settings = ap (λ (pass : PassView). pass.settings) first ∙ is.settings;
      },
      ap (λ (pass : PassView). pass.state) first ∙ is.state,
    )

-- nothing happened yet
pub seat_fresh : (s : Settings) (table : TableId) (number : ℕ)
    (seat : Seat (Unit {0}) (List PassView)) → IsSeatAt s table number seat
    → IsFresh (seated seat).pass
seat_fresh s table number seat is =
    let first : first_pass (view_of seat) ≡ is.pass = ap first_pass is.alone in
    record {
      owned = ap (λ (pass : PassView). pass.owned) first ∙ is.owned;
      mine = ap (λ (pass : PassView). pass.mine) first ∙ is.mine;
      seen = ap (λ (pass : PassView). pass.seen) first ∙ is.seen;
    }

pub passes-none : (tracker : TrackerId) → ArePasses tracker []
passes-none tracker =
    record {
      each = λ place other inside. absurd (omega (arith, inside));
      fresh = λ place other inside. absurd (omega (arith, inside));
    }

-- a fact of each place, with one more at the end
each-push : (P : ℕ → Seated → Type 0) (passes : List Seated) (one : Seated)
    → ((place : ℕ) (other : Seated) → place < length passes → P place (get_or passes place other))
    → P (length passes) one
    → (place : ℕ) (other : Seated) → place < length (passes ++ one ∷ [])
    → P place (get_or (passes ++ one ∷ []) place other)
each-push P passes one each last place other inside =
    let long = length-append passes (one ∷ []) in
    ⊎_elim
    (λ (less : place < length passes).
    subst (P place) (sym (get_or_append_left passes (one ∷ []) other place less))
    (each place other less))
    (λ (le : length passes ≤ place).
    let here : length passes + 0 ≡ place = omega arith in
    let at : get_or (passes ++ one ∷ []) place other ≡ one =
    subst (λ it. get_or (passes ++ one ∷ []) it other ≡ one) here
    (get_or-append-add passes (one ∷ []) 0 other) in
    let same : length passes ≡ place = omega arith in
    subst (P place) (sym at) (subst (λ it. P it one) same last))
    (cases_lt place (length passes))

-- one more pass, of the next number
pub passes-push : (s : Settings) (table : TableId) (passes made : List Seated)
    (seat : Seat (Unit {0}) (List PassView))
    → ArePasses (record { settings = s; table = table }) passes
    → IsSeatAt s table (length passes) seat → made ≡ passes ++ seated seat ∷ []
    → ArePasses (record { settings = s; table = table }) made
passes-push s table passes made seat are is pushed =
    let tracker : TrackerId = record { settings = s; table = table } in
    subst (ArePasses tracker) (sym pushed)
    (record {
      each = each-push (λ place it. IsOf tracker it × (it.pass.state ≡ Idle place)) passes
          (seated seat) are.each
          (idle-of s table (length passes) seat is);
      fresh = each-push (λ place it. IsFresh it.pass) passes (seated seat) are.fresh
          (seat_fresh s table (length passes) seat is);
    })

-- the next seat is taken from those that are left, and becomes a pass
pub pass-made : (s : Settings) (table : TableId) (passes made : List Seated)
    (seat : Seat (Unit {0}) (List PassView))
    (seats rest : List (Seat (Unit {0}) (List PassView)))
    → ArePasses (record { settings = s; table = table }) passes
    → AreSeatsFrom s table (length passes) seats → length passes + length seats ≡ s.threads
    → seats ≡ seat ∷ rest → made ≡ passes ++ seated seat ∷ []
    → ArePasses (record { settings = s; table = table }) made
    × AreSeatsFrom s table (length made) rest × (length passes + 1 ≡ length made)
    × (length made + length rest ≡ s.threads)
pass-made s table passes made seat seats rest are from count next pushed =
    let left = subst (AreSeatsFrom s table (length passes)) next from in
    let long : length passes + 1 ≡ length made =
    sym (length-append passes (seated seat ∷ [])) ∙ ap length (sym pushed) in
    let fewer : length seats ≡ length (seat ∷ rest) = ap length next in (
      passes-push s table passes made seat are
          (seats-head s table (length passes) seat rest left) pushed,
      subst (λ it. AreSeatsFrom s table it rest) long
          (seats-tail s table (length passes) seat rest left),
      long,
      omega (arith, long, fewer, count),
    )

-- the next seat is that of the next number
pub seat-next : (s : Settings) (table : TableId) (passes number : ℕ)
    (seat : Seat (Unit {0}) (List PassView))
    (seats rest : List (Seat (Unit {0}) (List PassView))) → AreSeatsFrom s table passes seats
    → passes + length seats ≡ s.threads
    → seats ≡ seat ∷ rest → number ≡ passes → IsSeatAt s table number seat × (number < s.threads)
seat-next s table passes number seat seats rest from count next same =
    let left = subst (AreSeatsFrom s table passes) next from in
    let fewer : length seats ≡ length (seat ∷ rest) = ap length next in (
      subst (λ it. IsSeatAt s table it seat) (sym same) (seats-head s table passes seat rest left),
      omega (arith, fewer, count, same),
    )
