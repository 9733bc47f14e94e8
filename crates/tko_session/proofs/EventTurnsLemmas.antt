-- The items, texts, sends and requests of these events and then those.
use Rattle.std.proofs.Common.{◌≡◌, ℕ, ◌+◌, length, length-append, List, [], ◌∷◌, ◌++◌, sym, ap}
use Rattle.std.proofs.Common.{subst, ◌∙◌, append_assoc, arith, count_by, sum_by, add-zero, cond}
use Rattle.std.proofs.lemmas.Grind.{flat_map-append}
use Rattle.std.proofs.lemmas.List.{map-append}
use Rattle.std.proofs.lemmas.List.Sums.{sum_by-append}
use Rattle.tko_route.specs.Trail.{sends_in}
use Rattle.tko_reply.specs.Replies.{trails_in}
use Rattle.tko_session.specs.Events.{SessionEvent, turns_of}
use Rattle.tko_session.specs.Turns.{SessionTurn, is_request}
use Rattle.tko_reply.specs.Replies.{sends_to}
use Rattle.tko_session.specs.SessionState.{BeginBelowBound, items_of, replies_text, trails_of}
use Rattle.tko_session.specs.SessionState.{requests_in}
use Rattle.tko_session.proofs.EventLemmas.{turns-append}

pub items-append : (events more : List SessionEvent)
    → items_of (turns_of (events ++ more)) ≡ items_of (turns_of events) ++ items_of (turns_of more)
items-append events more =
    ap items_of (turns-append events more)
    ∙ map-append (λ turn. turn.item) (turns_of events) (turns_of more)

pub text-append : (events more : List SessionEvent)
    → replies_text (turns_of (events ++ more)) ≡ replies_text (turns_of events)
    ++ replies_text (turns_of more)
text-append events more =
    ap replies_text (turns-append events more)
    ∙ flat_map-append (λ turn. turn.text) (turns_of events) (turns_of more)

pub sends-append : (server : ℕ) (events more : List SessionEvent)
    → sends_to server (trails_of (turns_of (events ++ more)))
    ≡ sends_to server (trails_of (turns_of events)) + sends_to server (trails_of (turns_of more))
sends-append server events more =
    let trails = ap trails_of (turns-append events more)
    ∙ flat_map-append (λ turn. trails_in turn.routed) (turns_of events) (turns_of more) in
    ap (sum_by (sends_in server)) trails
    ∙ sum_by-append (sends_in server) (trails_of (turns_of events)) (trails_of (turns_of more))

pub requests-append : (events more : List SessionEvent)
    → requests_in (items_of (turns_of (events ++ more)))
    ≡ requests_in (items_of (turns_of events)) + requests_in (items_of (turns_of more))
requests-append events more =
    ap (count_by is_request) (items-append events more)
    ∙ sum_by-append (λ item. cond (is_request item) 1 0) (items_of (turns_of events))
    (items_of (turns_of more))

-- turns that begin below the bound, and then more that do
begin-append : (waiting : ℕ) (turns more : List SessionTurn) → BeginBelowBound waiting turns
    → BeginBelowBound (waiting + length (replies_text turns)) more
    → BeginBelowBound waiting (turns ++ more)
begin-append waiting [] more front back =
    subst (λ n. BeginBelowBound n more) (add-zero waiting) back
begin-append waiting (turn ∷ turns) more (below, front) back =
    let sum : waiting + length (replies_text (turn ∷ turns))
    ≡ waiting + length turn.text + length (replies_text turns) =
    omega (arith, length-append turn.text (replies_text turns)) in (
      below,
      begin-append (waiting + length turn.text) turns more front
          (subst (λ n. BeginBelowBound n more) sum back),
    )

-- texts of events that come after others
pub waiting-append : (waiting mid all : List ℕ) (events more : List SessionEvent)
    → mid ≡ waiting ++ replies_text (turns_of events)
    → all ≡ mid ++ replies_text (turns_of more)
    → all ≡ waiting ++ replies_text (turns_of (events ++ more))
waiting-append waiting mid all events more front back =
    back ∙ ap (λ text. text ++ replies_text (turns_of more)) front
    ∙ append_assoc waiting (replies_text (turns_of events)) (replies_text (turns_of more))
    ∙ ap (λ text. waiting ++ text) (sym (text-append events more))

-- events whose items are answered below the bound, and then more of them
pub below-append : (outbox mid : List ℕ) (events more : List SessionEvent)
    → mid ≡ outbox ++ replies_text (turns_of events)
    → BeginBelowBound (length outbox) (turns_of events)
    → BeginBelowBound (length mid) (turns_of more)
    → BeginBelowBound (length outbox) (turns_of (events ++ more))
below-append outbox mid events more is front back =
    let len : length mid ≡ length outbox + length (replies_text (turns_of events)) =
    ap length is ∙ length-append outbox (replies_text (turns_of events)) in
    subst (BeginBelowBound (length outbox)) (sym (turns-append events more))
    (begin-append (length outbox) (turns_of events) (turns_of more) front
    (subst (λ n. BeginBelowBound n (turns_of more)) len back))
