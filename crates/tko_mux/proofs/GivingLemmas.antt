-- Who waits on a line once a client gave up its place there.
use Rattle.std.proofs.Common.{arith, ◌≡◌, ℕ, ◌+◌, ◌<◌, List, ◌∷◌, ◌++◌}
use Rattle.std.proofs.Common.{sym, ap, subst, ◌∙◌, length, length-append, take, drop, Some}
use Rattle.std.specs.Prelude.{slice_get, slice_set, slice_index_or}
use Rattle.std.proofs.Math.Seq.{get_or-append_seam}
use Rattle.std.proofs.lemmas.List.{drop_more, take-append-drop}
use Rattle.std.proofs.lemmas.List.Sums.{sum_by-append}
use Rattle.std.proofs.lemmas.Option.{get_or_from_slice_get, slice_get-get_or, slice_get_within}
use Rattle.tko_text.specs.declared.request.Request.{Request}
use Rattle.tko_pipe.specs.declared.waiter.Asker.TheVariants as asker
use Rattle.tko_pipe.specs.declared.waiter.Waiter.{Waiter}
use Rattle.tko_pipe.specs.Pipes.{PipeState}
use Rattle.tko_roster.proofs.SlotLemmas.{at_index}
use Rattle.tko_mux.specs.declared.mux.giving_up.Overdue.{Overdue}
use Rattle.tko_mux.specs.Awaits.{times_due}
use Rattle.tko_mux.specs.Giving.{GivesUp, GivesUpOn, NextOf}
use Rattle.tko_mux.specs.Giving.{IsOverdueOn, WaitsAt}
use Rattle.tko_mux.specs.Lines.{IsOnLive, LineState, pipe_waiters, waiters}
use Rattle.tko_mux.specs.Linking.{AreLinked, IsLoose, awaited_at, one_for, times_in, waiters_at}
use Rattle.tko_mux.specs.Linking.{waiters_on}
use Rattle.tko_mux.specs.Muxes.{MuxState, WaitsFor}
use Rattle.tko_mux.proofs.LinkingLemmas.{first_loose, one_same, times_first, without}
use Rattle.tko_mux.proofs.LineLemmas.{others_wait, set_waits}

-- a queue around a place
around : (queue : List Waiter) (place : ℕ) (it : Waiter) → slice_get queue place ≡ Some it
    → queue ≡ take place queue ++ it ∷ drop (place + 1) queue
around queue place it here =
    let rest : drop place queue ≡ it ∷ drop (place + 1) queue =
    drop_more queue place it (slice_get_within queue place it here)
    ∙ ap (λ (w : Waiter). w ∷ drop (place + 1) queue)
    (get_or_from_slice_get queue place it it here) in
    sym (take-append-drop place queue) ∙ ap (λ (w : List Waiter). take place queue ++ w) rest

-- how often a number is in it
times_around : (number : ℕ) (before : List Waiter) (it : Waiter) (after : List Waiter)
    → times_in number (before ++ it ∷ after)
    ≡ times_in number before + (one_for number it.by + times_in number after)
times_around number before it after =
    sum_by-append (λ (one : Waiter). one_for number one.by) before (it ∷ after)
    ∙ ap (λ n. times_in number before + n) (times_first number it after)

-- how often it is on a line is how often it is on its two connections
times_on : (number : ℕ) (ended others : List Waiter)
    → times_in number (ended ++ others) ≡ times_in number ended + times_in number others
times_on number ended others =
    sum_by-append (λ (one : Waiter). one_for number one.by) ended others

-- one that waits at a place is in the queue
waits_there : (pipe : PipeState) (place number : ℕ) → WaitsAt pipe place number
    → 0 < times_in number pipe.waiters
waits_there pipe place number waits =
    let before = take place pipe.waiters in
    let after = drop (place + 1) pipe.waiters in
    let all : times_in number pipe.waiters
    ≡ times_in number before + (one_for number waits.waiter.by + times_in number after) =
    ap (times_in number) (around pipe.waiters place waits.waiter waits.here)
    ∙ times_around number before waits.waiter after in
    let one : one_for number waits.waiter.by ≡ 1 =
    ap (one_for number) waits.is_by ∙ one_same number in
    omega (arith, all, one)

-- so its session awaits the server
pub overdue_awaits : {S P : Type 0} (awaited : S → List ℕ) (p old : MuxState S P)
    (server now : ℕ) (it : Overdue) (was : LineState) → p ≡ old → server < length p.lines
    → was ≡ slice_index_or p.lines server was → AreLinked awaited old.roster.slots old.lines
    → IsOverdueOn was now it
    → 0 < times_due (awaited_at awaited p.roster.slots it.number) server
overdue_awaits {S} {P} awaited p old server now it was same below read linked overdue =
    let here : AreLinked awaited p.roster.slots p.lines =
    subst (λ (m : MuxState S P). AreLinked awaited m.roster.slots m.lines) (sym same) linked in
    let at : waiters_at p.lines server ≡ waiters was =
    ap waiters_on (at_index p.lines server was below read) in
    let others : waiters was ≡ pipe_waiters was.ended ++ overdue.pipe.waiters =
    ap (λ (w : List Waiter). pipe_waiters was.ended ++ w) (ap pipe_waiters overdue.is_pipe) in
    let all : times_in it.number (waiters_at p.lines server)
    ≡ times_in it.number (pipe_waiters was.ended) + times_in it.number overdue.pipe.waiters =
    ap (times_in it.number) (at ∙ others)
    ∙ times_on it.number (pipe_waiters was.ended) overdue.pipe.waiters in
    let due = here server it.number in
    let one = waits_there overdue.pipe it.place it.number overdue.waits in
    omega (arith, due, all, one)

-- the one that gave up is the client that waited there
same_waiter : (pipe : PipeState) (place number : ℕ) (before : List Waiter) (it : Waiter)
    (after : List Waiter) → WaitsAt pipe place number → pipe.waiters ≡ before ++ it ∷ after
    → length before ≡ place → it.by ≡ asker.Client number
same_waiter pipe place number before it after waits is len =
    let all = length-append before (it ∷ after) in
    let within : length before < length (before ++ it ∷ after) = omega (arith, all) in
    let seam : slice_get (before ++ it ∷ after) (length before) ≡ Some it =
    slice_get-get_or (before ++ it ∷ after) (length before) it within
    ∙ ap Some (get_or-append_seam before it after it) in
    let here : slice_get (before ++ it ∷ after) (length before) ≡ Some waits.waiter =
    subst (λ n. slice_get (before ++ it ∷ after) n ≡ Some waits.waiter) (sym len)
    (subst (λ (q : List Waiter). slice_get q place ≡ Some waits.waiter) is waits.here) in
    let same : it ≡ waits.waiter = let both = sym seam ∙ here in cc both in
    ap (λ (w : Waiter). w.by) same ∙ waits.is_by

-- one less waits on the line
fewer_wait : (now number : ℕ) (request : Request) (old new : LineState)
    → IsOnLive (λ was it. GivesUp now number request was it) old new → (other : ℕ)
    → times_in other (waiters new) + one_for other (asker.Client number)
    ≡ times_in other (waiters old)
fewer_wait now number request old new on other =
    let gave = on.ends.given in
    let it = gave.it in
    let ended : List Waiter = pipe_waiters old.ended in
    let was : times_in other (waiters old)
    ≡ times_in other ended + (times_in other it.before
    + (one_for other it.waiter.by + times_in other it.after)) =
    ap (λ (w : List Waiter). times_in other (ended ++ w)) (ap pipe_waiters on.from)
    ∙ times_on other ended on.was.waiters
    ∙ ap (λ n. times_in other ended + n) (ap (times_in other) gave.given.waiters
    ∙ times_around other it.before it.waiter it.after) in
    let is : times_in other (waiters new)
    ≡ times_in other ended + (times_in other it.before + (0 + times_in other it.after)) =
    ap (λ (l : LineState). times_in other (waiters l)) on.to
    ∙ times_on other ended on.now.waiters
    ∙ ap (λ n. times_in other ended + n)
    (ap (λ (p : PipeState). times_in other p.waiters) gave.given.state
    ∙ times_around other it.before _ it.after) in
    let one : one_for other it.waiter.by ≡ one_for other (asker.Client number) =
    ap (one_for other) (same_waiter on.was on.ends.place number it.before it.waiter it.after
    on.ends.waits gave.given.waiters gave.place_is) in
    omega (arith, was, is, one)

-- the request of one that gave up is in no queue
loose_by : {S P : Type 0} (awaited : S → List ℕ) (p old : MuxState S P)
    (server moment number : ℕ) (request : Request) (was now : LineState) → p ≡ old
    → server < length p.lines → was ≡ slice_index_or p.lines server was
    → AreLinked awaited old.roster.slots old.lines
    → IsOnLive (λ pipe it. GivesUp moment number request pipe it) was now
    → IsLoose (awaited_at awaited p.roster.slots) (waiters_at (slice_set p.lines server now)) number
    server
loose_by {S} {P} awaited p old server moment number request was now same below read linked on =
    let here : AreLinked awaited p.roster.slots p.lines =
    subst (λ (m : MuxState S P). AreLinked awaited m.roster.slots m.lines) (sym same) linked in
    let at : waiters_at p.lines server ≡ waiters was =
    ap waiters_on (at_index p.lines server was below read) in
    first_loose (awaited_at awaited p.roster.slots) (waiters_at p.lines)
    (waiters_at (slice_set p.lines server now)) server number here
    (without (waiters_at p.lines) (waiters_at (slice_set p.lines server now)) server
    (asker.Client number)
    (λ other.
    let fewer = fewer_wait moment number request was now on other in
    let mine = ap (times_in other) (set_waits p.lines server now below) in
    let all = ap (times_in other) at in
    omega (arith, fewer, mine, all))
    (λ other apart. others_wait p.lines server now other apart))

pub gave_loose : {S P : Type 0} (awaited : S → List ℕ) (waits_for : WaitsFor S)
    (has_next : NextOf S) (p old : MuxState S P) (server moment number : ℕ)
    (was now : LineState) → p ≡ old
    → server < length p.lines → was ≡ slice_index_or p.lines server was
    → AreLinked awaited old.roster.slots old.lines
    → GivesUpOn waits_for has_next p.roster server moment number was now
    → IsLoose (awaited_at awaited p.roster.slots) (waiters_at (slice_set p.lines server now)) number
    server
gave_loose awaited waits_for has_next p old server moment number was now same below read linked
    gave =
    loose_by awaited p old server moment number gave.request was now same below read linked gave.on
