-- What the announcement of a server writes, and what a check writes in its place.
use Rattle.std.specs.Prelude.{◌≡◌, ◌<◌, ℕ, List, codes}
use Rattle.tko_cli.specs.declared.announcement.Announcement.{Announcement}

-- what is printed once clients can connect
abbrev pub ready_text : List ℕ
ready_text = codes "ready\n"

-- what is printed where a check finds no fault
abbrev pub valid_text : List ℕ
valid_text = codes "valid\n"

-- `ready` went out and nothing else, and the outlet did not fail
pub record IsReadyWritten {O : Type 0} (takes : O → List ℕ → O → Type 0) (failures : O → ℕ)
    (from to : O) : Type 0 where
  pub ready : takes from ready_text to
  pub calm : failures to ≡ failures from

-- `ready` went to the output of this announcement
pub record HasPrinted {O : Type 0} (takes : O → List ℕ → O → Type 0) (failures : O → ℕ)
    (old new : Announcement O) : Type 0 where
  pub same_reference : new.output.ghost_name ≡ old.output.ghost_name
  pub written : IsReadyWritten takes failures old.output.now new.output.now

-- the output of this announcement failed
pub record HasNotPrinted {O : Type 0} (failures : O → ℕ) (old new : Announcement O) : Type 0 where
  pub same_reference : new.output.ghost_name ≡ old.output.ghost_name
  pub failed : failures old.output.now < failures new.output.now
