-- What a step of each kind can leave of the word that it finds, whoever takes it: the words alone
-- decide, that one and what the soft word of its group says. Whether the call may do that, as
-- on a worn server, is for the call to answer.
use Rattle.std.specs.Prelude.{◌≡◌, ℕ, ◌+◌, ◌<◌, ◌⊎◌, List}
use Rattle.tko_model.specs.declared.mark.Mark.{Mark}
use Rattle.tko_model.specs.declared.mark.Mark.TheVariants.{Up, Soft, Hard}
use Rattle.tko_model.specs.Settings.{Settings}
use Rattle.tko_model.specs.declared.state.ServerState.{ServerState}
use Rattle.tko_word.specs.Words.{IsMarkOf, stamp_end}
use Rattle.tko_steps.specs.declared.step.Place.{Place}
use Rattle.tko_steps.specs.declared.step.Place.TheVariants as place
use Rattle.tko_steps.specs.declared.phase.Slots.{Slots}
use Rattle.tko_steps.specs.declared.step.StepKind.{StepKind}
use Rattle.tko_steps.specs.declared.step.StepKind.TheVariants as kind
use Rattle.tko_steps.specs.declared.step.Word.{Word}
use Rattle.tko_steps.specs.declared.step.Word.TheVariants as word
use Rattle.tko_model.specs.Groups.{group_of, limit_of}
use Rattle.tko_steps.specs.Core.{slots_at}

-- which kind of exchange leaves which mark in place of another: a count leaves an unmarked server
-- unmarked, a mark marks it for a thread, softly while a slot is held, and an own step clears a
-- mark or makes a soft one hard
abbrev pub CanMark : Settings → ℕ → StepKind → Mark → Mark → Type 0
CanMark s held by (Up old) (Up count) = by ≡ kind.Count
CanMark s held by (Up old) (Soft thread) =
    (by ≡ kind.Mark) × (thread < s.threads) × (0 < held)
CanMark s held by (Up old) (Hard thread) = (by ≡ kind.Mark) × (thread < s.threads)
CanMark s held by (Soft owner) (Up count) = (by ≡ kind.Own) × (count ≡ 0)
CanMark s held by (Soft owner) (Soft thread) = ⊥
CanMark s held by (Soft owner) (Hard thread) = (by ≡ kind.Own) × (thread ≡ owner)
CanMark s held by (Hard owner) (Up count) = (by ≡ kind.Own) × (count ≡ 0)
CanMark s held by (Hard owner) (Soft thread) = ⊥
CanMark s held by (Hard owner) (Hard thread) = ⊥

-- there is a word of this mark and stamp under the settings
abbrev pub IsValid : Settings → ServerState → Type 0
IsValid s server = IsMarkOf s server.mark × (server.stamp < stamp_end)

-- an exchange of a server's word that is won: the stamp is one more, and the word is a valid one
pub record IsWonExchange
    (s : Settings) (held : ℕ) (kind : StepKind) (found left : ServerState) : Type 0 where
  pub mark : CanMark s held kind found.mark left.mark
  pub stamp : left.stamp ≡ found.stamp + 1
  pub valid : IsValid s left

-- a lost exchange leaves the word as it was; an own step is never lost
abbrev pub CanLeaveServer : Settings → ℕ → StepKind → ServerState → ServerState → Type 0
CanLeaveServer s held kind.Look found left = left ≡ found
CanLeaveServer s held kind.Count found left =
    (left ≡ found) ⊎ IsWonExchange s held kind.Count found left
CanLeaveServer s held kind.Mark found left =
    (left ≡ found) ⊎ IsWonExchange s held kind.Mark found left
CanLeaveServer s held kind.Own found left = IsWonExchange s held kind.Own found left
CanLeaveServer s held kind.Reserve found left = ⊥
CanLeaveServer s held kind.Shift found left = ⊥
CanLeaveServer s held kind.Give found left = ⊥
CanLeaveServer s held kind.Enrol found left = ⊥

-- one more slot is held, where one was left
pub record IsReserved (limit : ℕ) (found left : Slots) : Type 0 where
  pub firm : left.firm ≡ found.firm
  pub held : left.held ≡ found.held + 1
  pub room : found.firm + found.held < limit

-- a held slot became a settled mark
pub record IsSlotSettled (found left : Slots) : Type 0 where
  pub firm : left.firm ≡ found.firm + 1
  pub held : found.held ≡ left.held + 1

-- one slot fewer is held
pub record IsSlotReleased (found left : Slots) : Type 0 where
  pub firm : left.firm ≡ found.firm
  pub held : found.held ≡ left.held + 1

-- to loosen a settled mark is to undo its settling
abbrev pub CanLeaveSlots : ℕ → StepKind → Slots → Slots → Type 0
CanLeaveSlots limit kind.Look found left = left ≡ found
CanLeaveSlots limit kind.Reserve found left = (left ≡ found) ⊎ IsReserved limit found left
CanLeaveSlots limit kind.Shift found left = IsSlotSettled found left ⊎ IsSlotSettled left found
CanLeaveSlots limit kind.Give found left = IsSlotReleased found left
CanLeaveSlots limit kind.Count found left = ⊥
CanLeaveSlots limit kind.Mark found left = ⊥
CanLeaveSlots limit kind.Own found left = ⊥
CanLeaveSlots limit kind.Enrol found left = ⊥

-- the group of a word: that of its server, or the one that a soft word counts
abbrev pub group_at : Settings → Place → ℕ
group_at s (place.Server server) = group_of s server
group_at s (place.Soft group) = group
group_at s place.Enrolment = 0

-- how many slots of a group are held, and how many marks and slots it may have
pub record GroupLimits : Type 0 where
  pub held : ℕ
  pub limit : ℕ

-- that of the group of a place
abbrev pub room_at : Settings → List Slots → Place → GroupLimits
room_at s slots at =
    record {
      held = (slots_at slots (group_at s at)).held;
      limit = limit_of s (group_at s at);
    }

-- a step of this kind can leave this of a word, where the group of the word has this room
abbrev pub CanLeave : Settings → GroupLimits → StepKind → Word → Word → Type 0
CanLeave s room by (word.Server found) (word.Server left) = CanLeaveServer s room.held by found left
CanLeave s room by (word.Server found) (word.Soft left) = ⊥
CanLeave s room by (word.Server found) (word.Enrolled left) = ⊥
CanLeave s room by (word.Soft found) (word.Soft left) = CanLeaveSlots room.limit by found left
CanLeave s room by (word.Soft found) (word.Server left) = ⊥
CanLeave s room by (word.Soft found) (word.Enrolled left) = ⊥
CanLeave s room by (word.Enrolled found) (word.Enrolled left) =
    (by ≡ kind.Enrol) × (left ≡ found + 1)
CanLeave s room by (word.Enrolled found) (word.Server left) = ⊥
CanLeave s room by (word.Enrolled found) (word.Soft left) = ⊥
