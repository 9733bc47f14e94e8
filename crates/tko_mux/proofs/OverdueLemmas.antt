-- Who is next to give up on a line, and that it did.
use Rattle.std.proofs.Common.{arith, ◌≡◌, ℕ, ◌<◌, List, refl}
use Rattle.std.proofs.Common.{sym, ap, subst, ◌∙◌, length, Option, Some}
use Rattle.std.proofs.Common.{None, inl, inr}
use Rattle.std.specs.Prelude.{slice_set, slice_index_or, IfNone, OnOk, Result, Ok, Err}
use Rattle.std.proofs.lemmas.Bool.{cases_lt}
use Rattle.tko_text.specs.declared.request.Request.{Request}
use Rattle.tko_pipe.specs.declared.waiter.Asker.TheVariants as asker
use Rattle.tko_pipe.specs.declared.waiter.Waiter.{Waiter}
use Rattle.tko_pipe.specs.declared.fates.Fate.TheVariants.{Aborted}
use Rattle.tko_pipe.specs.Giving.{HasGivenUp, IsNextOverdue, MayGiveUp}
use Rattle.tko_pipe.specs.Pipes.{PipeState}
use Rattle.tko_roster.specs.Rosters.{RosterState, session_at}
use Rattle.tko_roster.proofs.SlotLemmas.{at_index}
use Rattle.tko_mux.specs.declared.mux.giving_up.Overdue.{Overdue}
use Rattle.tko_mux.specs.declared.asking.Came.TheVariants.{Fate}
use Rattle.tko_mux.specs.declared.asking.Given.TheVariants.{Outcome}
use Rattle.tko_mux.specs.declared.client.Client.{Client}
use Rattle.tko_mux.specs.declared.mux.delivery.Delivery.TheVariants.{Reached}
use Rattle.tko_mux.specs.declared.mux.delivery.Done.{Done}
use Rattle.tko_mux.specs.Asks.{AskingActs}
use Rattle.tko_mux.specs.Giving.{AllWaitOn, GivesUpOn, NextOf, HasOneGivenUp, HasToWait}
use Rattle.tko_mux.specs.Giving.{IsOverdueOn, HasAnother, NoneOverdueOn, WaitOn, WaitsAt}
use Rattle.tko_mux.specs.Lines.{IsOnLive, LineState}
use Rattle.tko_mux.specs.Muxes.{IsMade, MuxState, WaitsFor}

-- the line of a server is the same, however it was read
pub same_line : (lines : List LineState) (server : ℕ) (one other : LineState)
    → server < length lines → one ≡ slice_index_or lines server one
    → other ≡ slice_index_or lines server other → one ≡ other
same_line lines server one other below first second =
    let both = sym (at_index lines server one below first) ∙ at_index lines server other below second
    in cc both

-- nobody is to give up on a line where nobody may
pub none_overdue : (line : LineState) (pipe : PipeState) (now : ℕ) (place : Option ℕ)
    → line.pipe ≡ Some pipe → place ≡ None
    → IfNone place ((it : ℕ) → MayGiveUp pipe now it → ⊥) → NoneOverdueOn line now
none_overdue line pipe now place here none may other it is overdue =
    let same : pipe ≡ other = let both = sym here ∙ is in cc both in
    let nobody : (it : ℕ) → MayGiveUp pipe now it → ⊥ =
    subst (λ p. IfNone p ((it : ℕ) → MayGiveUp pipe now it → ⊥)) none may in
    nobody it (subst (λ (p : PipeState). MayGiveUp p now it) (sym same) overdue.may)

pub none_is_overdue : {S P : Type 0} (has_next : NextOf S) (roster : RosterState (Client S) P)
    (server now : ℕ) (line : LineState) → NoneOverdueOn line now
    → WaitOn has_next roster server now line
none_is_overdue has_next roster server now line none pipe place number is overdue waits =
    absurd (none pipe place is overdue)

-- only one is next
next_alone : (pipe : PipeState) (now one other : ℕ) → IsNextOverdue pipe now one
    → IsNextOverdue pipe now other → one ≡ other
next_alone pipe now one other first second = elim (cases_lt one other) [
  | inl less ↦ absurd (second.first one less first.may)
  | inr most ↦ elim (cases_lt other one) [
    | inl less ↦ absurd (first.first other less second.may)
    | inr least ↦ omega (arith, most, least)
  ]
]

-- the one that is next has to wait
pub has_to_wait : {S P : Type 0} (has_next : NextOf S) (roster : RosterState (Client S) P)
    (server now : ℕ) (line : LineState) (it : Overdue) → IsOverdueOn line now it
    → HasToWait has_next roster server it.number → WaitOn has_next roster server now line
has_to_wait has_next roster server now line it next wait pipe place number is overdue waits =
    let pipe_is : next.pipe ≡ pipe = let both = sym next.is_pipe ∙ is in cc both in
    let same : place ≡ it.place =
    next_alone pipe now place it.place overdue
    (subst (λ (p : PipeState). IsNextOverdue p now it.place) pipe_is next.overdue) in
    let its : WaitsAt pipe it.place it.number =
    subst (λ (p : PipeState). WaitsAt p it.place it.number) pipe_is next.waits in
    let mine : WaitsAt pipe it.place number =
    subst (λ n. WaitsAt pipe n number) same waits in
    let waiter : its.waiter ≡ mine.waiter = let both = sym its.here ∙ mine.here in cc both in
    let by : asker.Client it.number ≡ asker.Client number =
    sym its.is_by ∙ ap (λ (w : Waiter). w.by) waiter ∙ mine.is_by in
    let numbers : it.number ≡ number = cc by in
    subst (λ n. HasToWait has_next roster server n) numbers wait

-- the line of the server
pub all_wait : {S P : Type 0} (has_next : NextOf S) (p old : MuxState S P) (server now : ℕ)
    (was : LineState) → p ≡ old → server < length p.lines
    → was ≡ slice_index_or p.lines server was → WaitOn has_next p.roster server now was
    → AllWaitOn has_next old server now
all_wait {S} {P} has_next p old server now was same below read wait =
    subst (λ (m : MuxState S P). AllWaitOn has_next m server now) same
    (λ line is.
    let both = sym (at_index p.lines server was below read) ∙ is in
    let this : was ≡ line = cc both in
    subst (λ (l : LineState). WaitOn has_next p.roster server now l) this wait)

-- one gave up on a line
pub gives_up_on : {S P E : Type 0} (waits_for : WaitsFor S) (has_next : NextOf S)
    (roster : RosterState (Client S) P) (server now : ℕ) (it : Overdue) (old new : LineState)
    (client : Client S) (request : Request) (result : Result Unit E) → IsOverdueOn old now it
    → HasAnother has_next roster server it.number
    → session_at roster.slots it.number ≡ Some client
    → waits_for client.session server ≡ Some request
    → OnOk result (IsOnLive (λ was is. HasGivenUp was now it.place request is) old new)
    → OnOk result (GivesUpOn waits_for has_next roster server now it.number old new)
gives_up_on waits_for has_next roster server now it old new client request (Err fault) next may here
    lent gave = tt
gives_up_on {S} waits_for has_next roster server now it old new client request (Ok done) next may
    here lent gave =
    let same : client ≡ may.client = let both = sym here ∙ may.is_client in cc both in
    let pipe : next.pipe ≡ gave.was = let both = sym next.is_pipe ∙ gave.from in cc both in
    record {
      may = may;
      request = request;
      lent = subst (λ (c : Client S). waits_for c.session server ≡ Some request) same lent;
      on = record {
        was = gave.was;
        now = gave.now;
        from = gave.from;
        ends = record {
          place = it.place;
          next = subst (λ (p : PipeState). IsNextOverdue p now it.place) pipe next.overdue;
          waits = subst (λ (p : PipeState). WaitsAt p it.place it.number) pipe next.waits;
          given = gave.ends;
        };
        to = gave.to;
      };
    }

-- and its session took that
pub one_gave : {S P I O : Type 0} (acts : AskingActs S P I O) (awaited : S → List ℕ)
    (asks_for : S → Option Request) (waits_for : WaitsFor S) (has_next : NextOf S)
    (p old : MuxState S P) (server now due number : ℕ) (was is : LineState) (done : Done O)
    (new : MuxState S P) → p ≡ old → server < length p.lines
    → was ≡ slice_index_or p.lines server was
    → GivesUpOn waits_for has_next p.roster server now number was is
    → IsMade acts awaited asks_for (record p { lines = slice_set p.lines server is }) number
    (Outcome server (Fate Aborted)) due done new
    → HasOneGivenUp acts awaited asks_for waits_for has_next old server now due
    (Reached number done) new
one_gave {S} {P} acts awaited asks_for waits_for has_next p old server now due number was is done
    new same below read gave made =
    subst (λ (m : MuxState S P). HasOneGivenUp acts awaited asks_for waits_for has_next m server
    now due (Reached number done) new) same
    (record {
      number = number;
      done = done;
      lines = slice_set p.lines server is;
      on = record {
        was = was;
        now = is;
        from = at_index p.lines server was below read;
        ends = gave;
        to = refl;
      };
      is = refl;
      made = made;
    })
