-- The probes of one server: what each call does to a prober.
use Rattle.std.specs.Prelude.{ℕ, ◌+◌, ◌≤◌, Option, Some, None}
use Rattle.tko_prober.specs.declared.delays.Delays.{Delays}
use Rattle.tko_prober.specs.declared.prober.AfterProbe.{AfterProbe}
use Rattle.tko_prober.specs.declared.prober.AfterProbe.TheVariants.{Recover, Harden, Again}
use Rattle.tko_prober.specs.declared.prober.Probed.{Probed}
use Rattle.tko_prober.specs.declared.prober.Probed.TheVariants.{Answered, Refused, Failed}
use Rattle.tko_prober.specs.declared.prober.Prober.{Prober}
use Rattle.tko_prober.specs.declared.prober.ProberStage.{ProberStage}
use Rattle.tko_prober.specs.declared.prober.ProberStage.TheVariants.{Resting, Out, Ended}
use Rattle.tko_bytes.specs.Numbers.{capped}
use Rattle.tko_prober.specs.Delay.{due_after}

-- a prober that began at this moment: its first probe is due after the first delay
abbrev pub begun_prober : Delays → ℕ → Prober
begun_prober delays now =
    record { delays = delays; results = 0; stage = Resting (capped (now + delays.first)) }

-- a probe is to be sent at this moment
abbrev pub IsDue : ProberStage → ℕ → Type 0
IsDue (Resting due) now = due ≤ now
IsDue Out now = ⊥
IsDue Ended now = ⊥

-- when the next probe is due, if none is out and one follows
abbrev pub next_at : ProberStage → Option ℕ
next_at (Resting due) = Some due
next_at Out = None
next_at Ended = None

-- a probe is out
abbrev pub sent : Prober → Prober
sent prober = record prober { stage = Out }

-- there are no more probes
abbrev pub ended : Prober → Prober
ended prober = record prober { stage = Ended }

-- what a result asks for
abbrev pub asked_after : Probed → AfterProbe
asked_after Answered = Recover
asked_after Refused = Harden
asked_after Failed = Again

-- one more result that did not recover the server: the next probe is due after a longer delay
abbrev pub delayed : Prober → ℕ → Prober
delayed prober now =
    let results = capped (prober.results + 1) in
    record prober { results = results; stage = Resting (due_after prober.delays results now) }

-- the prober after this result of its probe
abbrev pub with_result : Prober → ℕ → Probed → Prober
with_result prober now Answered = ended prober
with_result prober now Refused = delayed prober now
with_result prober now Failed = delayed prober now
