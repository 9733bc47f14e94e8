-- How fast a client takes its replies.
use Rattle.std.specs.Prelude.{◌<◌, ◌≤◌, ◌+◌, ◌-◌, ◌^◌, nat_lt, if◌then◌else◌, ℕ, Option, Some, None, min}
use Rattle.tko_pace.specs.declared.pace.Pace.{Pace}
use Rattle.tko_pace.specs.declared.pace.Span.{Span}

-- how many bytes a client must take in a span
abbrev pub least_taken : ℕ
least_taken = 65536

-- the last moment that a clock can show
abbrev pub last_moment : ℕ
last_moment = 2 ^ 64 - 1

-- a span that begins now
abbrev pub fresh_span : ℕ → Span
fresh_span now = record { began = now; missing = least_taken }

-- the client took so many bytes of a span more, and others wait
abbrev pub taken : ℕ → Option Span → Option Span
taken count None = None
taken count (Some span) = Some (record span { missing = span.missing - count })

-- so long no replies were to be taken in a span, so that it ends later
abbrev pub span_delayed : ℕ → Option Span → Option Span
span_delayed time None = None
span_delayed time (Some span) = Some (record span { began = min (span.began + time) last_moment })

-- replies wait in a span that lasts too long by now, and the client took too little in it
abbrev pub IsSlowIn : Option Span → ℕ → ℕ → Type 0
IsSlowIn None limit now = ⊥
IsSlowIn (Some span) limit now = (limit ≤ now - span.began) × (0 < span.missing)

abbrev pub IsSlow : Pace → ℕ → Type 0
IsSlow pace now = IsSlowIn pace.span pace.limit now

-- the span that goes on, or one that begins now, where there was none or it has passed
abbrev pub span_at : Option Span → ℕ → ℕ → Span
span_at None limit now = fresh_span now
span_at (Some span) limit now = if nat_lt (now - span.began) limit then span else fresh_span now

abbrev pub paced : Pace → ℕ → Pace
paced pace now = record pace { span = Some (span_at pace.span pace.limit now) }
