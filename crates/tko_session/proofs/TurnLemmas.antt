-- Whether a session goes on after items, and the progress that they come to.
use Rattle.std.proofs.Common.{◌≡◌, ◌≢◌, List, [], ◌∷◌, ◌++◌, refl, sym, ap, subst, ◌∙◌}
use Rattle.std.proofs.Common.{append_assoc, append-nil, arith}
use Rattle.std.proofs.lemmas.List.Elements.{All-append, All-cons, All-nil}
use Rattle.tko_text.specs.declared.item.Item.{Item}
use Rattle.tko_text.specs.declared.item.Item.TheVariants as item
use Rattle.tko_text.specs.declared.fault.TextFault.{TextFault}
use Rattle.tko_text.specs.declared.fault.TextFault.TheVariants as fault
use Rattle.tko_text.specs.declared.request.Request.{Request}
use Rattle.tko_text.specs.declared.request.Request.TheVariants as asked
use Rattle.tko_text.specs.Reading.{Reading, Emits}
use Rattle.tko_session.specs.Events.{SessionEvent, turns_of}
use Rattle.tko_session.specs.declared.step.Progress.{Progress}
use Rattle.tko_session.specs.declared.step.Progress.TheVariants as progress
use Rattle.tko_session.specs.SessionState.{Continues, EndsWith, ContinuesAfterAll, InSession}
use Rattle.tko_session.specs.SessionState.{ProgressIs, progress_after, progress_of, items_of}
use Rattle.tko_session.specs.SessionState.{line_too_long, quit}
use Rattle.tko_text.proofs.NeverLemmas.{ends_reading}
use Rattle.tko_session.proofs.EventTurnsLemmas.{items-append}

pub goes_on-append : (items more : List Item) → ContinuesAfterAll items → ContinuesAfterAll more
    → ContinuesAfterAll (items ++ more)
goes_on-append items more front back = All-append Continues items more front back

-- the last of the later items is the last of all
ends-append : (last : Item) (items more : List Item) → ContinuesAfterAll items → EndsWith last more
    → EndsWith last (items ++ more)
ends-append last items more front ends = record {
  before = items ++ ends.before;
  parts = ap (λ xs. items ++ xs) ends.parts ∙ sym (append_assoc items ends.before (last ∷ []));
  goes_on = goes_on-append items ends.before front ends.goes_on;
}

-- what the later items say of progress, all say
pub progress-append : (progress : Progress) (items more : List Item) (reading : Reading)
    → ContinuesAfterAll items
    → ProgressIs progress more reading → ProgressIs progress (items ++ more) reading
progress-append progress.More items more reading front back = goes_on-append items more front back
progress-append progress.NeedsInput items more reading front (back, none) =
    (goes_on-append items more front back, none)
progress-append progress.LineTooLong items more reading front (ends, never) =
    (ends-append line_too_long items more front ends, never)
progress-append progress.Quit items more reading front ends = ends-append quit items more front ends

-- no item, and the session may go on
pub goes_on-none : ContinuesAfterAll []
goes_on-none = All-nil Continues

-- the progress after the reply to a fault
pub fault_progress : (fault : TextFault) (from to : Reading) → Emits from (item.Fault fault) to
    → ProgressIs (progress_after fault) (item.Fault fault ∷ []) to
fault_progress fault.LineTooLong from to tells = (
  record { before = []; parts = refl; goes_on = goes_on-none },
  ends_reading from line_too_long to tells refl,
)
fault_progress fault.UnknownCommand from to tells =
    All-cons Continues _ [] (record { read = λ same. cc; asked = λ same. cc }) goes_on-none
fault_progress fault.BadLine from to tells =
    All-cons Continues _ [] (record { read = λ same. cc; asked = λ same. cc }) goes_on-none
fault_progress fault.BadKey from to tells =
    All-cons Continues _ [] (record { read = λ same. cc; asked = λ same. cc }) goes_on-none
fault_progress fault.BadChunk from to tells =
    All-cons Continues _ [] (record { read = λ same. cc; asked = λ same. cc }) goes_on-none
fault_progress fault.TooLarge from to tells =
    All-cons Continues _ [] (record { read = λ same. cc; asked = λ same. cc }) goes_on-none

-- one request is one item
request-of : (it other : Request) → item.Request it ≡ item.Request other → it ≡ other
request-of it other same = cc

pub in_session_of : (items : List Item) → ContinuesAfterAll items → InSession items
in_session_of items goes = record {
  before = items;
  last = [];
  parts = sym (append-nil items);
  goes_on = goes;
  one = omega arith;
}

in_session_ended : (last : Item) (items : List Item) → EndsWith last items → InSession items
in_session_ended last items ends = record {
  before = ends.before;
  last = last ∷ [];
  parts = ends.parts;
  goes_on = ends.goes_on;
  one = omega arith;
}

-- the session goes on after this request
goes_on-one : (it : Request) → it ≢ asked.Quit → ContinuesAfterAll (item.Request it ∷ [])
goes_on-one it other =
    All-cons Continues (item.Request it) []
    (record { read = λ same. cc; asked = λ same. other (request-of it asked.Quit same) })
    goes_on-none

-- the progress after the reply to a request
pub request_progress : (it : Request) (to : Reading)
    → ProgressIs (progress_of it) (item.Request it ∷ []) to
request_progress asked.Quit to = record { before = []; parts = refl; goes_on = goes_on-none }
request_progress (asked.Get keys) to = goes_on-one _ (λ same. cc)
request_progress (asked.Gets keys) to = goes_on-one _ (λ same. cc)
request_progress (asked.Store verb entry noreply) to = goes_on-one _ (λ same. cc)
request_progress (asked.Cas entry unique noreply) to = goes_on-one _ (λ same. cc)
request_progress (asked.Delete key noreply) to = goes_on-one _ (λ same. cc)
request_progress (asked.Incr key amount noreply) to = goes_on-one _ (λ same. cc)
request_progress (asked.Decr key amount noreply) to = goes_on-one _ (λ same. cc)
request_progress (asked.Touch key expiry noreply) to = goes_on-one _ (λ same. cc)
request_progress asked.Version to = goes_on-one _ (λ same. cc)
request_progress asked.StatsTko to = goes_on-one _ (λ same. cc)

-- items of a session that goes on, or that the last one ends
pub in_session : (at : Progress) (items : List Item) (to : Reading) → ProgressIs at items to
    → InSession items
in_session progress.More items to goes = in_session_of items goes
in_session progress.NeedsInput items to (goes, none) = in_session_of items goes
in_session progress.LineTooLong items to (ends, never) = in_session_ended line_too_long items ends
in_session progress.Quit items to ends = in_session_ended quit items ends

pub in_session-append : (items more : List Item) → ContinuesAfterAll items → InSession more
    → InSession (items ++ more)
in_session-append items more front back = record {
  before = items ++ back.before;
  last = back.last;
  parts = ap (λ xs. items ++ xs) back.parts ∙ sym (append_assoc items back.before back.last);
  goes_on = goes_on-append items back.before front back.goes_on;
  one = back.one;
}

pub events_in_session : (events more : List SessionEvent)
    → ContinuesAfterAll (items_of (turns_of events))
    → InSession (items_of (turns_of more)) → InSession (items_of (turns_of (events ++ more)))
events_in_session events more front back =
    subst InSession (sym (items-append events more))
    (in_session-append (items_of (turns_of events)) (items_of (turns_of more)) front back)

-- the session goes on after these events, and after those
pub events_go_on : (events more : List SessionEvent)
    → ContinuesAfterAll (items_of (turns_of events)) → ContinuesAfterAll (items_of (turns_of more))
    → ContinuesAfterAll (items_of (turns_of (events ++ more)))
events_go_on events more front back =
    subst ContinuesAfterAll (sym (items-append events more))
    (goes_on-append (items_of (turns_of events)) (items_of (turns_of more)) front back)

-- progress of events that come after others
pub events_progress : (progress : Progress) (events more : List SessionEvent) (reading : Reading)
    → ContinuesAfterAll (items_of (turns_of events))
    → ProgressIs progress (items_of (turns_of more)) reading
    → ProgressIs progress (items_of (turns_of (events ++ more))) reading
events_progress progress events more reading front back =
    subst (λ items. ProgressIs progress items reading) (sym (items-append events more))
    (progress-append progress (items_of (turns_of events))
    (items_of (turns_of more)) reading front back)
