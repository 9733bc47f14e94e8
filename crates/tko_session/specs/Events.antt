-- What a session does, in order: it answers items, and runs rounds of its probers.
use Rattle.std.specs.Prelude.{◌≡◌, ◌≤◌, ℕ, Bool, true, false, List, [], ◌∷◌, ◌++◌, count_by, flat_map, length, Option, Some, None}
use Rattle.std.specs.List.{list_any}
use Rattle.tko_text.specs.declared.request.Request.{Request}
use Rattle.tko_reply.specs.declared.parts.Parts.{Parts}
use Rattle.tko_prober.specs.Ghosts.{BackendGhosts}
use Rattle.tko_prober.specs.Round.{Absent, IsRound, Probed, Rested, Stopped, Visit, ran_out}
use Rattle.tko_reply.specs.Ghosts.{PartsGhosts}
use Rattle.tko_reply.specs.Interactions.{Performs}
use Rattle.tko_session.specs.Turns.{IsSessionTurn, SessionTurn, is_request}

-- an item and what became of it, the round after a request, or the round at an idle turn of the
-- reader; a round with its visit of each server
pub data SessionEvent : Type 0 where
  Answer : SessionTurn → SessionEvent
  RoundAfter : List Visit → SessionEvent
  IdleRound : List Visit → SessionEvent

abbrev pub turn_in : SessionEvent → List SessionTurn
turn_in (Answer turn) = turn ∷ []
turn_in (RoundAfter visits) = []
turn_in (IdleRound visits) = []

abbrev pub visits_in : SessionEvent → List Visit
visits_in (Answer turn) = []
visits_in (RoundAfter visits) = visits
visits_in (IdleRound visits) = visits

abbrev pub is_idle_round : SessionEvent → Bool
is_idle_round (Answer turn) = false
is_idle_round (RoundAfter visits) = false
is_idle_round (IdleRound visits) = true

-- the items that were answered, and what became of each
abbrev pub turns_of : List SessionEvent → List SessionTurn
turns_of events = flat_map turn_in events

-- the visits of all rounds
abbrev pub visits_of : List SessionEvent → List Visit
visits_of events = flat_map visits_in events

-- memory ran out in no visit of these rounds
abbrev pub NoneShort : List SessionEvent → Type 0
NoneShort events = list_any ran_out (visits_of events) ≡ false

-- memory ran out in no round of these but the last event
pub record ShortAtMostLast (events : List SessionEvent) : Type 0 where
  pub before : List SessionEvent
  pub last : List SessionEvent
  pub parts : events ≡ before ++ last
  pub memory : NoneShort before
  pub one : length last ≤ 1

-- whether a prober was at work at the server of a visit
abbrev pub met_prober : Visit → Bool
met_prober (Absent server) = false
met_prober (Stopped server) = true
met_prober (Rested server) = true
met_prober (Probed server came moment reply) = true

-- no prober was at work in these rounds, so that none of them took long
abbrev pub NoneAtWork : List SessionEvent → Type 0
NoneAtWork events = list_any met_prober (visits_of events) ≡ false

-- how many rounds were run at idle turns
abbrev pub idle_rounds : List SessionEvent → ℕ
idle_rounds events = count_by is_idle_round events

-- whether a round is owed after an event, where one is owed before it or is not: a request owes a
-- round, the next event is that round, and it owes none. No other event may come there.
abbrev pub owed_then : Bool → SessionEvent → Option Bool
owed_then false (Answer turn) = Some (is_request turn.item)
owed_then false (IdleRound visits) = Some false
owed_then true (RoundAfter visits) = Some false
owed_then _ _ = None

abbrev pub owed_from : Option Bool → List SessionEvent → Option Bool
owed_from None events = None
owed_from (Some owed) [] = Some owed
owed_from (Some owed) (event ∷ events) = owed_from (owed_then owed event) events

-- whether a round is owed after these events; none of them may come elsewhere
abbrev pub owed_after : Bool → List SessionEvent → Option Bool
owed_after owed events = owed_from (Some owed) events

-- what an event does to the parts of a session, what a request does at which memory runs out, and
-- how often each server was sent to and probed
pub record Effects (W : Type 0) : Type 1 where
  pub step : W → SessionEvent → W → Type 0
  pub cut : Request → W → W → Type 0
  pub sent : W → ℕ → ℕ
  pub probed : W → ℕ → ℕ

module _ {H L T C : Type 0} (ghosts : BackendGhosts H L C) where
  -- a round was run, in which memory ran out or did not, and nothing was sent to a server but its
  -- probes
  pub record Rounded (short : Bool) (old new : Parts H L T C) : Type 0 where
    pub round : IsRound ghosts old.backend short new.backend
    pub others : new ≡ record old { backend = new.backend }
    pub sends : (server : ℕ)
        → ghosts.sent new.backend.links server ≡ ghosts.sent old.backend.links server

  -- a round with these visits, in which nothing was sent to a server but its probes
  pub record IsRoundOf (visits : List Visit) (old new : Parts H L T C) : Type 0 where
    pub short : Bool
    pub round : IsRound ghosts old.backend short new.backend
    pub visited : round.visits ≡ visits
    pub others : new ≡ record old { backend = new.backend }
    pub sends : (server : ℕ)
        → ghosts.sent new.backend.links server ≡ ghosts.sent old.backend.links server

-- what an event changes
abbrev pub IsEvent : {H L T C : Type 0} → PartsGhosts H L T C → Parts H L T C → SessionEvent
    → Parts H L T C → Type 0
IsEvent ghosts old (Answer turn) new = Performs ghosts (λ config. IsSessionTurn config turn) old new
IsEvent ghosts old (RoundAfter visits) new = IsRoundOf ghosts.backend visits old new
IsEvent ghosts old (IdleRound visits) new = IsRoundOf ghosts.backend visits old new
