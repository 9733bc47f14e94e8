-- The probers of a worker, one slot for each server.
use Rattle.std.specs.Prelude.{◌≡◌, ℕ, Bool, true, false, if◌then◌else◌, List, [], ◌∷◌, map, replicate, count_by, slice_get, slice_set, option_and_then, Option, Some, None, Result, Ok, Err}
use Rattle.tko_model.specs.declared.mark.Op.{Op}
use Rattle.tko_model.specs.declared.mark.Op.TheVariants.{HardFailure, Success}
use Rattle.tko_model.specs.declared.mark.Reply.{Reply}
use Rattle.tko_model.specs.declared.mark.Reply.TheVariants as reply
use Rattle.tko_links.specs.declared.links.ExchangeNoMemory.{ExchangeNoMemory}
use Rattle.tko_links.specs.declared.links.Outcome.{Outcome}
use Rattle.tko_links.specs.declared.links.Outcome.TheVariants as outcome
use Rattle.tko_prober.specs.declared.delays.Delays.{Delays}
use Rattle.tko_prober.specs.declared.prober.AfterProbe.{AfterProbe}
use Rattle.tko_prober.specs.declared.prober.AfterProbe.TheVariants as after
use Rattle.tko_prober.specs.declared.prober.Probed.{Probed}
use Rattle.tko_prober.specs.declared.prober.Probed.TheVariants as probe
use Rattle.tko_prober.specs.declared.prober.Prober.{Prober}
use Rattle.tko_prober.specs.Probes.{begun_prober, next_at, with_result}
use Rattle.tko_route.specs.declared.attempt.Attempt.{Attempt}
use Rattle.tko_route.specs.declared.attempt.Attempt.TheVariants as attempt
use Rattle.tko_prober.specs.declared.probers.ProbeSlot.{ProbeSlot}
use Rattle.tko_prober.specs.declared.probers.ProbeSlot.TheVariants.{Quiet, Marked, Probing}

-- the delays of all probers, and a slot for each server
pub record ProbersState : Type 0 where
  pub delays : Delays
  pub slots : List ProbeSlot

-- the probers of `servers` servers, none of which is probed
abbrev pub no_probers : Delays → ℕ → ProbersState
no_probers delays servers = record { delays = delays; slots = replicate servers Quiet }

-- whether a server is probed, or is going to be
abbrev pub is_busy : ProbeSlot → Bool
is_busy Quiet = false
is_busy Marked = true
is_busy (Probing prober) = true

-- no server is probed, and none is going to be
abbrev pub AreQuiet : ProbersState → Type 0
AreQuiet probers = count_by is_busy probers.slots ≡ 0

abbrev pub prober_in : Option ProbeSlot → Option Prober
prober_in (Some (Probing prober)) = Some prober
prober_in (Some Quiet) = None
prober_in (Some Marked) = None
prober_in None = None

-- the prober of a server, until it has recovered or was stopped
abbrev pub prober_of : ProbersState → ℕ → Option Prober
prober_of probers server = prober_in (slice_get probers.slots server)

-- when the next probe of a server is due, if it is probed and no probe is out
abbrev pub next_probe_at : ProbersState → ℕ → Option ℕ
next_probe_at probers server =
    option_and_then (λ prober. next_at prober.stage) (prober_of probers server)

abbrev pub with_slot : ProbersState → ℕ → ProbeSlot → ProbersState
with_slot probers server slot = record probers { slots = slice_set probers.slots server slot }

-- whether this is the answer to a failure that made the mark
abbrev pub is_taken : Reply → Bool
is_taken reply.TookSoft = true
is_taken reply.TookHard = true
is_taken _ = false

-- after an attempt: a server that its failure marked is going to be probed
abbrev pub noted_one : Attempt → ProbersState → ProbersState
noted_one (attempt.Skipped server mark) probers = probers
noted_one (attempt.Sent server came answer) probers =
    if is_taken answer then with_slot probers server Marked else probers
noted_one (attempt.Aborted server) probers = probers
noted_one (attempt.Spent server) probers = probers

-- after the attempts of a trail, in order
abbrev pub noted : List Attempt → ProbersState → ProbersState
noted [] probers = probers
noted (it ∷ trail) probers = noted trail (noted_one it probers)

-- a server that was marked gets a prober that begins at this moment
abbrev pub begun_slot : Delays → ℕ → ProbeSlot → ProbeSlot
begun_slot delays moment Quiet = Quiet
begun_slot delays moment Marked = Probing (begun_prober delays moment)
begun_slot delays moment (Probing prober) = Probing prober

-- each server that was marked since the last round
abbrev pub begun_at : ℕ → ProbersState → ProbersState
begun_at moment probers =
    record probers { slots = map (begun_slot probers.delays moment) probers.slots }

-- what an outcome is to a prober
abbrev pub probed_by : Outcome → Probed
probed_by (outcome.Reply response) = probe.Answered
probed_by outcome.Refused = probe.Refused
probed_by outcome.Timeout = probe.Failed
probed_by outcome.Broken = probe.Failed
probed_by outcome.Aborted = probe.Failed
probed_by outcome.Spent = probe.Failed

-- what came of a probe; one for which memory ran out has failed
abbrev pub probed_of : Result Outcome ExchangeNoMemory → Probed
probed_of (Ok came) = probed_by came
probed_of (Err fault) = probe.Failed

-- the slot of a server whose probe, which was out, came to this: after an answer it is no longer
-- probed
abbrev pub slot_after : Prober → ℕ → Probed → ProbeSlot
slot_after prober moment probe.Answered = Quiet
slot_after prober moment probe.Refused = Probing (with_result prober moment probe.Refused)
slot_after prober moment probe.Failed = Probing (with_result prober moment probe.Failed)

-- the operation that a prober asks for
abbrev pub op_asked : AfterProbe → Option Op
op_asked after.Recover = Some Success
op_asked after.Harden = Some HardFailure
op_asked after.Again = None

-- no server waits for its prober
abbrev pub AreBegun : List ProbeSlot → Type 0
AreBegun [] = Unit {0}
AreBegun (Quiet ∷ slots) = AreBegun slots
AreBegun (Marked ∷ slots) = ⊥
AreBegun (Probing prober ∷ slots) = AreBegun slots

-- each server that was marked has its prober
pub record NoneMarked (probers : ProbersState) : Type 0 where
  pub begun : AreBegun probers.slots
