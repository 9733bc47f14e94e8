-- How outcomes and attempts are printed, and a text of which a part was written.
use Rattle.std.specs.Prelude.{ℕ, ◌≤◌, ◌+◌, List, [], ◌∷◌, ◌++◌, codes, decimal, length, take}
use Rattle.tko_route.specs.declared.attempt.Attempt.{Attempt}
use Rattle.tko_route.specs.declared.attempt.Attempt.TheVariants as attempt
use Rattle.tko_route.specs.Trail.{server_of}
use Rattle.tko_model.specs.Texts.{mark_text, reply_text}
use Rattle.tko_links.specs.declared.links.Outcome.{Outcome}
use Rattle.tko_links.specs.declared.links.Outcome.TheVariants as outcome

-- an outcome, without the response
abbrev pub outcome_text : Outcome → List ℕ
outcome_text (outcome.Reply response) = codes "reply"
outcome_text outcome.Timeout = codes "timeout"
outcome_text outcome.Refused = codes "refused"
outcome_text outcome.Broken = codes "broken"
outcome_text outcome.Aborted = codes "aborted"
outcome_text outcome.Spent = codes "spent"

-- what came of an attempt, after the server's number
abbrev pub end_text : Attempt → List ℕ
end_text (attempt.Skipped server mark) = codes "skipped " ++ mark_text mark
end_text (attempt.Sent server outcome reply) =
    codes "sent " ++ outcome_text outcome ++ codes " " ++ reply_text reply
end_text (attempt.Aborted server) = codes "aborted"
end_text (attempt.Spent server) = codes "spent"

-- the line of an attempt at the routed request of this number
abbrev pub attempt_text : ℕ → Attempt → List ℕ
attempt_text number attempt =
    codes "trail " ++ decimal number ++ codes " " ++ decimal (server_of attempt)
    ++ codes " " ++ end_text attempt ++ codes "\n"

-- the lines of a trail
abbrev pub trail_text : ℕ → List Attempt → List ℕ
trail_text number [] = []
trail_text number (attempt ∷ others) = attempt_text number attempt ++ trail_text number others

-- the lines of the trails of requests that are numbered from this one on
abbrev pub trails_text : ℕ → List (List Attempt) → List ℕ
trails_text number [] = []
trails_text number (trail ∷ others) = trail_text number trail ++ trails_text (number + 1) others

-- the front of a text was written, which may be all of it or nothing
pub record WritesFront {O : Type 0} (takes : O → List ℕ → O → Type 0) (text : List ℕ)
    (from to : O) : Type 0 where
  pub count : ℕ
  pub within : count ≤ length text
  pub went : takes from (take count text) to
