-- How many requests there were, and what became of them.
use Rattle.std.specs.Prelude.{◌==◌, Bool, true, false, List, count_by, if◌then◌else◌}
use Rattle.tko_model.specs.Numbers.{saturated}
use Rattle.tko_model.specs.declared.counts.Counts.{Counts}
use Rattle.tko_model.specs.declared.kind.Kind.TheVariants as kind
use Rattle.tko_links.specs.declared.links.Outcome.{Outcome}
use Rattle.tko_links.specs.declared.links.Outcome.TheVariants as outcome
use Rattle.tko_route.specs.declared.attempt.Attempt.{Attempt}
use Rattle.tko_route.specs.declared.attempt.Attempt.TheVariants as attempt
use Rattle.tko_reply.specs.TrailEvents.{TrailEvent, Asked, Tried}

-- the request was sent
abbrev pub is_sent_attempt : Attempt → Bool
is_sent_attempt (attempt.Skipped server mark) = false
is_sent_attempt (attempt.Sent server came answer) = true
is_sent_attempt (attempt.Aborted server) = true
is_sent_attempt (attempt.Spent server) = false

-- the server was passed over because of its mark
abbrev pub is_skipped : Attempt → Bool
is_skipped (attempt.Skipped server mark) = true
is_skipped (attempt.Sent server came answer) = false
is_skipped (attempt.Aborted server) = false
is_skipped (attempt.Spent server) = false

-- what came is a response
abbrev pub is_response : Outcome → Bool
is_response (outcome.Reply response) = true
is_response outcome.Timeout = false
is_response outcome.Refused = false
is_response outcome.Broken = false
is_response outcome.Aborted = false
is_response outcome.Spent = false

-- the server gave a response
abbrev pub is_replied : Attempt → Bool
is_replied (attempt.Skipped server mark) = false
is_replied (attempt.Sent server came answer) = is_response came
is_replied (attempt.Aborted server) = false
is_replied (attempt.Spent server) = false

-- a trail without a response
abbrev pub is_unanswered : List Attempt → Bool
is_unanswered trail = count_by is_replied trail == 0

-- one more request; or the attempts of one more routed request. Each number stays at 2^64 - 1
abbrev pub counted : Counts → TrailEvent → Counts
counted old (Asked request) = saturated kind.Request 1 old
counted old (Tried trail) =
    let sent = saturated kind.Attempt (count_by is_sent_attempt trail) old in
    let skipped = saturated kind.Skip (count_by is_skipped trail) sent in
    let replied = saturated kind.Reply (count_by is_replied trail) skipped in
    saturated kind.NoServer (if is_unanswered trail then 1 else 0) replied
