-- The lines behind a header, one after another.
use Rattle.std.proofs.Common.{◌≡◌, ℕ, ◌+◌, ◌<◌, ◌≤◌, ◌⊎◌, ⊎_elim, true, false, List, [], ◌∷◌, ◌++◌, Some, None, Ok, Err, length, refl, sym, ap, ◌∙◌, arith, length-append, append_assoc, append-nil}
use Rattle.std.specs.Prelude.{is_none, nat_lt}
use Rattle.std.specs.List.{filter_map, position_or_len}
use Rattle.std.proofs.lemmas.Bool.{cond-true, cond-false, lt-ltb, le-ltb}
use Rattle.tko_bytes.specs.Lines.{lines_of}
use Rattle.tko_runs.specs.declared.schedule.command.Command.{Command}
use Rattle.tko_runs.specs.declared.schedule.fault.ScheduleFault.TheVariants as fault
use Rattle.tko_runs.specs.Limits.{max_commands}
use Rattle.tko_runs.specs.ScheduleLines.{command_line}
use Rattle.tko_runs.specs.Schedules.{bad_place, commands_of}

pub lines_of-empty : (text : List ℕ) → length text ≡ 0 → lines_of text ≡ []
unfolding lines_of
lines_of-empty [] e = refl
lines_of-empty (byte ∷ bytes) e = absurd (omega arith)

-- the place of the first line that is no command
pub place_of : List (List ℕ) → ℕ
place_of lines = position_or_len (λ line. is_none (command_line line)) lines

place_of-command : (line : List ℕ) (lines : List (List ℕ)) (command : Command) → command_line line ≡ Some command
    → place_of (line ∷ lines) ≡ 1 + place_of lines
unfolding place_of
place_of-command line lines command e = rw e refl

place_of-other : (line : List ℕ) (lines : List (List ℕ)) → command_line line ≡ None → place_of (line ∷ lines) ≡ 0
unfolding place_of
place_of-other line lines e = rw e refl

-- of all lines these commands are read, and the rest is still to be read
pub record HasRead (all : List (List ℕ)) (commands : List Command) (rest : List (List ℕ)) : Type 0 where
  pub few : length commands ≤ max_commands
  pub place : place_of all ≡ length commands + place_of rest
  pub count : length all ≡ length commands + length rest
  pub values : filter_map command_line all ≡ commands ++ filter_map command_line rest

pub has_read-none : (all : List (List ℕ)) → HasRead all [] all
has_read-none all = record { few = omega arith; place = omega arith; count = omega arith; values = refl }

pub has_read-more : (all : List (List ℕ)) (commands : List Command) (command : Command) (line : List ℕ) (rest : List (List ℕ))
    → HasRead all commands (line ∷ rest) → length commands < max_commands → command_line line ≡ Some command
    → HasRead all (commands ++ command ∷ []) rest
has_read-more all commands command line rest so_far few is =
    let longer : length (commands ++ command ∷ []) ≡ length commands + 1 = length-append commands (command ∷ []) in
    let place = place_of-command line rest command is in
    record {
      few = omega arith;
      place = omega (arith, so_far.place);
      count = omega (arith, so_far.count);
      values = so_far.values ∙ rw is (sym (append_assoc commands (command ∷ []) (filter_map command_line rest)));
    }

pub has_read-all : (before : ℕ) (all : List (List ℕ)) (commands : List Command) → HasRead all commands []
    → commands_of before all ≡ Ok commands
unfolding commands_of place_of
has_read-all before all commands so_far =
    let end : bad_place all ≡ length commands = omega (arith, so_far.place, so_far.few) in
    let past : nat_lt (bad_place all) (length all) ≡ false = le-ltb (bad_place all) (length all) (omega (arith, so_far.count)) in
    cond-false _ _ _ past ∙ ap Ok (so_far.values ∙ append-nil commands)

-- the line at this place is bad
bad_at : (before : ℕ) (all : List (List ℕ)) (place : ℕ) → bad_place all ≡ place → place < length all
    → commands_of before all ≡ Err (fault.Line (place + before + 1))
unfolding commands_of
bad_at before all place here inside =
    let past : nat_lt (bad_place all) (length all) ≡ true = lt-ltb (bad_place all) (length all) (omega arith) in
    cond-true _ _ _ past ∙ ap (λ n. Err (fault.Line (n + before + 1))) here

pub has_read-bad : (before : ℕ) (all : List (List ℕ)) (commands : List Command) (line : List ℕ) (rest : List (List ℕ))
    → HasRead all commands (line ∷ rest) → (max_commands ≤ length commands) ⊎ (command_line line ≡ None)
    → commands_of before all ≡ Err (fault.Line (length commands + before + 1))
unfolding place_of
has_read-bad before all commands line rest so_far bad =
    bad_at before all (length commands)
    (⊎_elim
    (λ many. omega (arith, so_far.place, so_far.few))
    (λ other. omega (arith, so_far.place, so_far.few, place_of-other line rest other))
    bad)
    (omega (arith, so_far.count))
