-- The walk over the clients: how far each is, and which of them end by their limits.
use Rattle.std.specs.Prelude.{◌≡◌, ◌≤◌, ◌<◌, ◌+◌, ◌-◌, ◌↔◌, ◌⊎◌, nat_le, if◌then◌else◌, ℕ, Bool, true, false, zero, suc, List, [], ◌∷◌, Option, Some, None, length, slice_get}
use Rattle.std.specs.Option.{option_and_then}
use Rattle.tko_model.specs.Records.{Gains}
use Rattle.tko_roster.specs.Rosters.{session_at}
use Rattle.tko_mux.specs.declared.client.Client.{Client}
use Rattle.tko_pace.specs.declared.client_time.ClientTime.{ClientTime}
use Rattle.tko_pace.specs.declared.client_time.ClientProgress.{ClientProgress}
use Rattle.tko_pace.specs.declared.client_time.Verdict.{Verdict}
use Rattle.tko_pace.specs.declared.client_time.Verdict.TheVariants.{Silent, Slow, Stays}
use Rattle.tko_pace.specs.ClientTimes.{IsSilentAt, IsSlowAt, after_time_look, is_in_time}
use Rattle.tko_port.specs.declared.guest.Guest.{Guest}
use Rattle.tko_port.specs.declared.guest.Presence.{Presence}
use Rattle.tko_port.specs.declared.guest.Presence.TheVariants.{Here, Leaving}
use Rattle.tko_port.specs.declared.settling.End.{End}
use Rattle.tko_port.specs.declared.settling.End.TheVariants.{ReadFailed, WriteFailed}
use Rattle.tko_port.specs.declared.talking.Tally.{Tally}
use Rattle.tko_port.specs.Talks.{Talk}
use Rattle.tko_worker.specs.Workers.{OthersStay, Sight, tally_at}

-- whether a client awaits a server
abbrev pub is_waiting_for : List ℕ → Bool
is_waiting_for [] = false
is_waiting_for (server ∷ others) = true

-- how far a client is, unless it is to leave
abbrev pub progress_by : Presence → List ℕ → Talk → Option ClientProgress
progress_by Here awaited talk = Some (record {
  requests = talk.answered;
  taken = talk.taken;
  waiting = length talk.output;
  is_asking = is_waiting_for awaited;
})
progress_by (Leaving why) awaited talk = None

abbrev pub client_progress : {L T : Type 0} → Sight L T → Option (Client (Guest L T))
    → Option ClientProgress
client_progress sight slot =
    option_and_then (λ client. progress_by client.session.presence (sight.0 client.session.talk)
    (sight.1 client.session.talk)) slot

-- the same of the client of a number, if one has it
abbrev pub progress_at : {L T : Type 0} → Sight L T → List (Option (Client (Guest L T))) → ℕ
    → Option ClientProgress
progress_at sight slots number = client_progress sight (session_at slots number)

-- a client, if there is one, is to leave so
abbrev pub LeavesBy : {L T : Type 0} → End → Option (Client (Guest L T)) → Type 0
LeavesBy why None = Unit {0}
LeavesBy why (Some client) = client.session.presence ≡ Leaving why

-- by this verdict a client stays as it was, or it is to leave, or has left
abbrev pub IsJudged : {L T : Type 0} → Verdict → (old new : Option (Client (Guest L T))) → Type 0
IsJudged Stays old new = new ≡ old
IsJudged Silent old new = LeavesBy ReadFailed new
IsJudged Slow old new = LeavesBy WriteFailed new

-- a client was looked at that was so far, and its verdict is that of its limits
pub record IsSeen {L T : Type 0} (now idle : ℕ) (progress : ClientProgress) (time : ClientTime)
    (old : Option (Client (Guest L T))) (after : ClientTime) (new : Option (Client (Guest L T)))
    : Type 0 where
  pub verdict : Verdict
  pub silent : (verdict ≡ Silent) ↔ IsSilentAt idle now progress time
  pub slow : (verdict ≡ Slow) ↔ IsSlowAt now progress time
  pub time_after : after ≡ after_time_look (is_in_time verdict) now progress time
  pub judged : IsJudged verdict old new

-- the client of a number was looked at, if one has it that is not to leave
abbrev pub IsSeenIf : {L T : Type 0} → ℕ → ℕ → Option ClientProgress → ClientTime
    → Option (Client (Guest L T)) → ClientTime → Option (Client (Guest L T)) → Type 0
IsSeenIf now idle None time old after new = (after ≡ time) × (new ≡ old)
IsSeenIf now idle (Some progress) time old after new =
    IsSeen now idle progress time old after new

-- the client of a number was looked at in a walk, by the time that was known of it
pub record IsSeenAt {L T : Type 0} (sight : Sight L T) (now idle number : ℕ)
    (times : List ClientTime) (old : List (Option (Client (Guest L T)))) (after : List ClientTime)
    (new : List (Option (Client (Guest L T)))) : Type 0 where
  pub before : ClientTime
  pub later : ClientTime
  pub was : slice_get times number ≡ Some before
  pub is : slice_get after number ≡ Some later
  pub seen : IsSeenIf now idle (progress_at sight old number) before (session_at old number) later
      (session_at new number)

-- each number that has a time was looked at
abbrev pub HasWalked : {L T : Type 0} → Sight L T → (now idle : ℕ) → List ClientTime
    → List (Option (Client (Guest L T))) → List ClientTime → List (Option (Client (Guest L T)))
    → Type 0
HasWalked sight now idle times old after new = (number : ℕ) → number < length times
    → IsSeenAt sight now idle number times old after new

-- how many bytes of replies wait in memory for a number's client, with those of a reply that is
-- under way
abbrev pub waiting_by : Option Tally → ℕ
waiting_by None = 0
waiting_by (Some tally) = tally.held

abbrev pub waiting_at : {L T : Type 0} → Sight L T → List (Option (Client (Guest L T))) → ℕ → ℕ
waiting_at sight slots number = waiting_by (tally_at sight.1 slots number)

-- how many it is for each of the first clients was noted
abbrev pub AreWaits : {L T : Type 0} → Sight L T → List (Option (Client (Guest L T))) → List ℕ
    → Type 0
AreWaits sight slots waits = (number waiting : ℕ) → slice_get waits number ≡ Some waiting
    → waiting ≡ waiting_at sight slots number

-- and how many of all numbers below one
abbrev pub waiting_below : {L T : Type 0} → Sight L T → List (Option (Client (Guest L T))) → ℕ → ℕ
waiting_below sight slots zero = 0
waiting_below sight slots (suc number) =
    waiting_below sight slots number + waiting_at sight slots number

-- what is left of a bound without so many bytes; none where it is passed
abbrev pub bound_without : Option ℕ → ℕ → Option ℕ
bound_without None waiting = None
bound_without (Some left) waiting = if nat_le waiting left then Some (left - waiting) else None

-- so much is left of a bound without so many bytes, or it is passed
abbrev pub IsBoundLeft : (bound total : ℕ) → Option ℕ → Type 0
IsBoundLeft bound total None = bound < total
IsBoundLeft bound total (Some left) = total + left ≡ bound

-- more bytes than the bound wait, and none of so many numbers has more of them than this one
pub record IsHeaviest {L T : Type 0} (sight : Sight L T)
    (slots : List (Option (Client (Guest L T)))) (bound number : ℕ) : Type 0 where
  pub passed : bound < waiting_below sight slots (length slots)
  pub most : (other : ℕ) → other < length slots
      → waiting_at sight slots other ≤ waiting_at sight slots number

-- the client with the most bytes that wait, where more wait than the bound; else there is none
abbrev pub IsHeaviestIf : {L T : Type 0} → Sight L T → List (Option (Client (Guest L T))) → ℕ
    → Option ℕ → Type 0
IsHeaviestIf sight slots bound None = waiting_below sight slots (length slots) ≤ bound
IsHeaviestIf sight slots bound (Some number) = IsHeaviest sight slots bound number

-- one of those with the most bytes is to leave, or left, where more wait than the bound; the others
-- stay
pub record IsDismissed {L T : Type 0} (sight : Sight L T) (bound : ℕ)
    (old : List (Option (Client (Guest L T)))) (number : ℕ)
    (new : List (Option (Client (Guest L T)))) : Type 0 where
  pub heaviest : IsHeaviest sight old bound number
  pub leaves : LeavesBy WriteFailed (session_at new number)
  pub others : OthersStay number old new

-- so many clients leave for the bound in one walk, at most
abbrev pub most_leavers : ℕ
most_leavers = 256

-- clients left for the bound, one after another, until no more bytes than that waited, or until as
-- many left as may in one walk
pub record IsRelieved {L T : Type 0} (sight : Sight L T) (bound : ℕ)
    (old new : List (Option (Client (Guest L T)))) : Type 0 where
  pub gone : List ℕ
  pub each : Gains (IsDismissed sight bound) old gone new
  pub ends : (waiting_below sight new (length new) ≤ bound) ⊎ (length gone ≡ most_leavers)
