-- The sessions of a worker's clients by number, and the parts that they share.
use Rattle.std.specs.Prelude.{◌≡◌, ◌≢◌, ℕ, List, [], Option, Some, None, slice_get}
use Rattle.std.specs.Option.{option_and_then}
use Rattle.tko_model.specs.Records.{Gains}
use Rattle.tko_roster.specs.Tagged.{Tagged, own}

-- what all sessions share, and for each number its session, if it has one
pub record RosterState (S P : Type 0) : Type 0 where
  pub parts : P
  pub slots : List (Option S)

-- nobody has a number
abbrev pub nobody : {S P : Type 0} → P → RosterState S P
nobody parts = record { parts = parts; slots = [] }

-- the session of a number
abbrev pub session_at : {S : Type 0} → List (Option S) → ℕ → Option S
session_at slots number = option_and_then (λ slot. slot) (slice_get slots number)

-- what a call of a session does: the session and the parts before, the call, and both after
abbrev pub Acting : Type 0 → Type 0 → Type 0 → Type 1
Acting S P A = S × P → A → S × P → Type 0

-- what a number does
pub data RosterAct (S A : Type 0) : Type 0 where
  Admitted : (session : S) → RosterAct S A
  Acted : (call : A) → RosterAct S A
  Released : (session : S) → RosterAct S A

-- one number's session before and after; all others have theirs as before
pub record IsMoved {S : Type 0} (old : List (Option S)) (number : ℕ) (was now : Option S)
    (new : List (Option S)) : Type 0 where
  pub before : session_at old number ≡ was
  pub after : session_at new number ≡ now
  pub others : (other : ℕ) → other ≢ number → session_at new other ≡ session_at old other

-- a number that has no session gets one
pub record IsAdmitted {S P : Type 0} (old : RosterState S P) (number : ℕ) (session : S)
    (new : RosterState S P) : Type 0 where
  pub moved : IsMoved old.slots number None (Some session) new.slots
  pub parts : new.parts ≡ old.parts

-- the session of a slot makes this call over the parts as they are
pub record IsSlotCall {S P A : Type 0} (acts : Acting S P A) (old : Option S) (before : P)
    (call : A) (new : Option S) (after : P) : Type 0 where
  pub was : S
  pub now : S
  pub from : old ≡ Some was
  pub to : new ≡ Some now
  pub made : acts (was, before) call (now, after)

-- the number's session makes this call over the parts as they are
pub record IsActed {S P A : Type 0} (acts : Acting S P A) (old : RosterState S P) (number : ℕ)
    (call : A) (new : RosterState S P) : Type 0 where
  pub was : S
  pub now : S
  pub moved : IsMoved old.slots number (Some was) (Some now) new.slots
  pub made : acts (was, old.parts) call (now, new.parts)

-- the number's session leaves, which has no request under way
pub record IsReleased {S P : Type 0} (awaited : S → List ℕ) (old : RosterState S P) (number : ℕ)
    (session : S) (new : RosterState S P) : Type 0 where
  pub idle : awaited session ≡ []
  pub moved : IsMoved old.slots number (Some session) None new.slots
  pub parts : new.parts ≡ old.parts

-- one act of a number
abbrev pub IsActOf : {S P A : Type 0} → Acting S P A → (S → List ℕ) → RosterState S P → ℕ
    → RosterAct S A → RosterState S P → Type 0
IsActOf acts awaited old number (Admitted session) new = IsAdmitted old number session new
IsActOf acts awaited old number (Acted call) new = IsActed acts old number call new
IsActOf acts awaited old number (Released session) new = IsReleased awaited old number session new

abbrev pub IsRosterStep : {S P A : Type 0} → Acting S P A → (S → List ℕ) → RosterState S P
    → Tagged (RosterAct S A) → RosterState S P → Type 0
IsRosterStep acts awaited old it new = IsActOf acts awaited old it.number it.item new

-- what a call does to its session alone, whatever the parts have become meanwhile
pub record IsOwnCall {S P A : Type 0} (acts : Acting S P A) (old : Option S) (call : A)
    (new : Option S) : Type 0 where
  pub was : S
  pub now : S
  pub before : P
  pub after : P
  pub from : old ≡ Some was
  pub to : new ≡ Some now
  pub made : acts (was, before) call (now, after)

-- what an act does to its number alone: a session comes only where there is none, makes its calls,
-- and leaves only where no request of it is under way
abbrev pub IsOwnAct : {S P A : Type 0} → Acting S P A → (S → List ℕ) → Option S → RosterAct S A
    → Option S → Type 0
IsOwnAct acts awaited old (Admitted session) new = (old ≡ None) × (new ≡ Some session)
IsOwnAct acts awaited old (Acted call) new = IsOwnCall acts old call new
IsOwnAct acts awaited old (Released session) new =
    (awaited session ≡ []) × (old ≡ Some session) × (new ≡ None)

-- what a call does to the parts, whichever session makes it
pub record IsSharedCall {S P A : Type 0} (acts : Acting S P A) (old : P) (call : A) (new : P)
    : Type 0 where
  pub was : S
  pub now : S
  pub made : acts (was, old) call (now, new)

abbrev pub IsSharedActOf : {S P A : Type 0} → Acting S P A → P → RosterAct S A → P → Type 0
IsSharedActOf acts old (Admitted session) new = new ≡ old
IsSharedActOf acts old (Acted call) new = IsSharedCall acts old call new
IsSharedActOf acts old (Released session) new = new ≡ old

abbrev pub IsSharedAct : {S P A : Type 0} → Acting S P A → P → Tagged (RosterAct S A) → P → Type 0
IsSharedAct acts old it new = IsSharedActOf acts old it.item new

-- What the acts of a roster mean: the parts were changed by all calls, in their order, and each
-- number's own acts are those of one session after another.
pub record IsServed {S P A : Type 0} (acts : Acting S P A) (awaited : S → List ℕ)
    (old : RosterState S P) (items : List (Tagged (RosterAct S A))) (new : RosterState S P) : Type 0
  where
    pub shared : Gains (IsSharedAct acts) old.parts items new.parts
    pub each : (number : ℕ) → Gains (IsOwnAct acts awaited) (session_at old.slots number)
        (own number items) (session_at new.slots number)

-- each session can make its next call
abbrev pub AreReady : {S P : Type 0} → (P → S → Type 0) → RosterState S P → Type 0
AreReady {S} ready roster = (number : ℕ) (session : S)
    → session_at roster.slots number ≡ Some session → ready roster.parts session

-- this holds of the number's session, if it has one
abbrev pub IfHas : {S : Type 0} → List (Option S) → ℕ → (S → Type 0) → Type 0
IfHas {S} slots number holds =
    (session : S) → session_at slots number ≡ Some session → holds session

-- nobody is in a slot, and nothing changes
pub record IsVacant {S P : Type 0} (old : Option S) (before : P) (new : Option S) (after : P)
    : Type 0 where
  pub none : old ≡ None
  pub still : new ≡ None
  pub kept : after ≡ before

-- nobody has the number, and nothing changes
pub record IsNobody {S P : Type 0} (old : RosterState S P) (number : ℕ) (new : RosterState S P)
    : Type 0 where
  pub nobody : session_at old.slots number ≡ None
  pub kept : new ≡ old
