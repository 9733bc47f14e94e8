-- What each call on the sessions and the lines does.
use Rattle.std.proofs.Common.{arith, ◌≡◌, ◌≢◌, ℕ, ◌<◌, List, [], ◌∷◌, ◌++◌, Bool, true, false, refl, sym, ap, subst, ◌∙◌, length, Option, Some, None}
use Rattle.std.specs.Prelude.{IsSome, slice_set, slice_index_or}
use Rattle.std.specs.Bool.{OnTrue}
use Rattle.tko_text.specs.declared.request.Request.{Request}
use Rattle.tko_pipe.specs.declared.waiter.Asker.TheVariants as asker
use Rattle.tko_pipe.specs.declared.waiter.Waiter.{Waiter}
use Rattle.tko_pipe.specs.Pipes.{pushing}
use Rattle.tko_roster.specs.Rosters.{AreReady, IsActed, RosterState, session_at}
use Rattle.tko_roster.proofs.SlotLemmas.{at_index}
use Rattle.tko_mux.specs.declared.asking.Came.{Came}
use Rattle.tko_mux.specs.declared.asking.Came.TheVariants.{Unsent}
use Rattle.tko_mux.specs.declared.asking.Given.{Given}
use Rattle.tko_mux.specs.declared.asking.Given.TheVariants.{Input, Outcome}
use Rattle.tko_mux.specs.declared.client.Client.{Client}
use Rattle.tko_mux.specs.declared.mux.delivery.Done.{Done}
use Rattle.tko_mux.specs.Asks.{AskingActs, IsAskingCall}
use Rattle.tko_mux.specs.Awaits.{IsAsking, IsTaking, times_due}
use Rattle.tko_mux.specs.Lines.{LineState, waiters}
use Rattle.tko_mux.specs.Linking.{AreLinked, IsAsker, IsLoose, awaited_at, awaited_by, waiters_at, waiters_on}
use Rattle.tko_mux.specs.Muxes.{Calls, HasRequest, IsMade, IsPushedFor, IsSendStopped, MuxState, SendEnds}
use Rattle.tko_mux.proofs.LinkingLemmas.{asked_linked, last_linked, last_without, loose_awaits, taken_linked}
use Rattle.tko_mux.proofs.LineLemmas.{others_wait, pushed_waits, set_waits}

-- the sessions can be called as before, where they and their parts stay
pub ready_as : {S P : Type 0} (is_ready : P → Client S → Type 0) (p old : MuxState S P) → p ≡ old
    → AreReady is_ready old.roster → AreReady is_ready p.roster
ready_as {S} {P} is_ready p old same ready =
    subst (λ (m : MuxState S P). AreReady is_ready m.roster) (sym same) ready

-- a session that is told that memory ran out asks nobody
pub told : {S P I O : Type 0} (acts : AskingActs S P I O) (awaited : S → List ℕ)
    (p old : MuxState S P) (number server : ℕ) (given : Given I) (asked : Option ℕ) (did : O)
    (new : RosterState (Client S) P) → p ≡ old
    → given ≡ Outcome server Unsent
    → Calls acts awaited p.roster number given asked did new
    → IsSendStopped acts awaited old number server did (record p { roster = new })
told {S} {P} {I} {O} acts awaited p old number server given asked did new same is made =
    let acted : Calls acts awaited p.roster number (Outcome server Unsent) asked did new =
    subst (λ (g : Given I). Calls acts awaited p.roster number g asked did new) is made in
    let asks_none : asked ≡ None = acted.made.asks.unsent refl in
    let Told : Option ℕ → Type 0 = λ it.
    Calls acts awaited p.roster number (Outcome server Unsent) it did new in
    let Stopped : MuxState S P → Type 0 = λ it.
    IsSendStopped acts awaited it number server did (record p { roster = new }) in
    subst Stopped same (record { told = subst Told asks_none acted; kept = refl; limit = refl })

-- a request that was in no queue stands at the end of the line of its server
pub sent_linked : {S P : Type 0} (awaited : S → List ℕ) (asks_for : S → Option Request)
    (p old : MuxState S P) (number server due : ℕ) (was now : LineState) (done : Bool) → p ≡ old
    → server < length p.lines → was ≡ slice_index_or p.lines server was
    → IsLoose (awaited_at awaited old.roster.slots) (waiters_at old.lines) number server
    → OnTrue done (IsPushedFor asks_for p.roster p.limit number due was now)
    → OnTrue done (AreLinked awaited p.roster.slots (slice_set p.lines server now))
sent_linked awaited asks_for p old number server due was now false same below read loose sent = tt
sent_linked {S} {P} awaited asks_for p old number server due was now true same below read loose
    sent =
    let it : Waiter = (pushing (asker.Client number) due sent.request).waiter in
    let here : waiters_at p.lines server ≡ waiters was =
    ap waiters_on (at_index p.lines server was below read) in
    let last : waiters_at (slice_set p.lines server now) server
    ≡ waiters_at p.lines server ++ it ∷ [] =
    set_waits p.lines server now below
    ∙ pushed_waits p.limit was now (pushing (asker.Client number) due sent.request) sent.pushed
    ∙ ap (λ (w : List Waiter). w ++ it ∷ []) (sym here) in
    let free : IsLoose (awaited_at awaited p.roster.slots) (waiters_at p.lines) number server =
    subst (λ (m : MuxState S P). IsLoose (awaited_at awaited m.roster.slots)
    (waiters_at m.lines) number server) (sym same) loose in
    last_linked (awaited_at awaited p.roster.slots) (waiters_at p.lines)
    (waiters_at (slice_set p.lines server now)) server number free
    (last_without (waiters_at p.lines) (waiters_at (slice_set p.lines server now)) server it last
    (λ other apart. others_wait p.lines server now other apart))

-- whom the session of a number awaits before and after a call, and that no other's changed
record AwaitsOn {S : Type 0} (awaited : S → List ℕ) (old new : ℕ → List ℕ) (number : ℕ)
    (was now : Client S) : Type 0 where
  before : old number ≡ awaited was.session
  after : new number ≡ awaited now.session
  others : (other : ℕ) → other ≢ number → new other ≡ old other

awaits_on : {S P I O : Type 0} (acts : AskingActs S P I O) (awaited : S → List ℕ)
    (old new : RosterState (Client S) P) (number : ℕ) (given : Given I) (asked : Option ℕ) (did : O)
    → (it : Calls acts awaited old number given asked did new)
    → AwaitsOn awaited (awaited_at awaited old.slots) (awaited_at awaited new.slots) number it.was
    it.now
awaits_on {S} acts awaited old new number given asked did it = record {
  before = ap (awaited_by awaited) it.moved.before;
  after = ap (awaited_by awaited) it.moved.after;
  others = λ other ne. ap (awaited_by awaited) (it.moved.others other ne);
}

-- after an input, the request of a session that asks a server is in no queue
pub asks_after : {S P I O : Type 0} (acts : AskingActs S P I O) (awaited : S → List ℕ)
    (p old : MuxState S P) (number : ℕ) (input : I) (asked : Option ℕ) (did : O) (new : RosterState (Client S) P) → p ≡ old
    → Calls acts awaited p.roster number (Input input) asked did new
    → AreLinked awaited old.roster.slots old.lines
    → IsAsker (awaited_at awaited new.slots) (waiters_at p.lines) number asked
asks_after {S} {P} acts awaited p old number input asked did new same it linked =
    let here : AreLinked awaited p.roster.slots p.lines =
    subst (λ (m : MuxState S P). AreLinked awaited m.roster.slots m.lines) (sym same) linked in
    let on = awaits_on acts awaited p.roster new number (Input input) asked did it in
    let asking : IsAsking asked (awaited_at awaited p.roster.slots number)
    (awaited_at awaited new.slots number) =
    subst (λ a. IsAsking asked a (awaited_at awaited new.slots number)) (sym on.before)
    (subst (λ a. IsAsking asked (awaited it.was.session) a) (sym on.after) it.made.asks) in
    asked_linked (awaited_at awaited p.roster.slots) (awaited_at awaited new.slots)
    (waiters_at p.lines) number asked here asking on.others

-- and after it took what came of a request that was in none
pub takes_after : {S P I O : Type 0} (acts : AskingActs S P I O) (awaited : S → List ℕ)
    (p old : MuxState S P) (number server : ℕ) (came : Came)
    (asked : Option ℕ) (did : O) (new : RosterState (Client S) P) → p ≡ old
    → Calls acts awaited p.roster number (Outcome server came) asked did new
    → IsLoose (awaited_at awaited old.roster.slots) (waiters_at old.lines) number server
    → IsAsker (awaited_at awaited new.slots) (waiters_at p.lines) number asked
takes_after {S} {P} acts awaited p old number server came asked did new same it loose =
    let here : IsLoose (awaited_at awaited p.roster.slots) (waiters_at p.lines) number server =
    subst (λ (m : MuxState S P). IsLoose (awaited_at awaited m.roster.slots)
    (waiters_at m.lines) number server) (sym same) loose in
    let on = awaits_on acts awaited p.roster new number (Outcome server came) asked did it
    in
    let taking : IsTaking server came asked (awaited_at awaited p.roster.slots number)
    (awaited_at awaited new.slots number) =
    subst (λ a. IsTaking server came asked a (awaited_at awaited new.slots number))
    (sym on.before)
    (subst (λ a. IsTaking server came asked (awaited it.was.session) a) (sym on.after)
    it.made.asks) in
    taken_linked (awaited_at awaited p.roster.slots) (awaited_at awaited new.slots)
    (waiters_at p.lines) number server came asked here taking on.others

-- a session that was told that memory ran out asks nobody, so all wait as they should
pub stopped_linked : {S P I O : Type 0} (acts : AskingActs S P I O) (awaited : S → List ℕ)
    (p old : MuxState S P) (number server : ℕ) (given : Given I) (asked : Option ℕ) (did : O)
    (new : RosterState (Client S) P) → p ≡ old
    → given ≡ Outcome server Unsent
    → Calls acts awaited p.roster number given asked did new
    → IsLoose (awaited_at awaited old.roster.slots) (waiters_at old.lines) number server
    → AreLinked awaited new.slots p.lines
stopped_linked {S} {P} {I} {O} acts awaited p old number server given asked did new same
    is made loose =
    let it : Calls acts awaited p.roster number (Outcome server Unsent) asked did new =
    subst (λ (g : Given I). Calls acts awaited p.roster number g asked did new) is made in
    subst (IsAsker (awaited_at awaited new.slots) (waiters_at p.lines) number)
    (it.made.asks.unsent refl)
    (takes_after acts awaited p old number server Unsent asked did new same it loose)

-- the session whose request is in no queue can take what came of it
pub loose_may : {S P : Type 0} (awaited : S → List ℕ) (p old : MuxState S P) (number server : ℕ)
    (client : Client S) → p ≡ old
    → IsLoose (awaited_at awaited old.roster.slots) (waiters_at old.lines) number server
    → session_at p.roster.slots number ≡ Some client
    → 0 < times_due (awaited client.session) server
loose_may {S} {P} awaited p old number server client same loose is =
    let here : IsLoose (awaited_at awaited p.roster.slots) (waiters_at p.lines) number server =
    subst (λ (m : MuxState S P). IsLoose (awaited_at awaited m.roster.slots)
    (waiters_at m.lines) number server) (sym same) loose in
    subst (λ a. 0 < times_due a server) (ap (awaited_by awaited) is)
    (loose_awaits (awaited_at awaited p.roster.slots) (waiters_at p.lines) number server here)

-- and there is one
pub loose_here : {S P : Type 0} (awaited : S → List ℕ) (p old : MuxState S P) (number server : ℕ)
    → p ≡ old
    → IsLoose (awaited_at awaited old.roster.slots) (waiters_at old.lines) number server
    → session_at p.roster.slots number ≡ None → ⊥
loose_here {S} {P} awaited p old number server same loose is =
    let here : IsLoose (awaited_at awaited p.roster.slots) (waiters_at p.lines) number server =
    subst (λ (m : MuxState S P). IsLoose (awaited_at awaited m.roster.slots)
    (waiters_at m.lines) number server) (sym same) loose in
    let some : 0 < times_due [] server =
    subst (λ a. 0 < times_due a server) (ap (awaited_by awaited) is)
    (loose_awaits (awaited_at awaited p.roster.slots) (waiters_at p.lines) number server here) in
    absurd (omega (arith, some))

-- what a call of the number's session did
pub called : {S P I O : Type 0} (acts : AskingActs S P I O) (awaited : S → List ℕ)
    (asks_for : S → Option Request) (old : RosterState (Client S) P) (number : ℕ)
    (given : Given I) (asked : Option ℕ) (did : O) (new : RosterState (Client S) P)
    → IsActed (IsAskingCall acts awaited asks_for) old number (given, (asked, did)) new
    → Calls acts awaited old number given asked did new
called acts awaited asks_for old number given asked did new it = record {
  was = it.was;
  now = it.now;
  moved = it.moved;
  made = it.made.is_call;
}

-- and that it has the request that it asks to send
pub has_request : {S P I O : Type 0} (acts : AskingActs S P I O) (awaited : S → List ℕ)
    (asks_for : S → Option Request) (old : RosterState (Client S) P) (number : ℕ)
    (given : Given I) (asked : Option ℕ) (did : O) (new : RosterState (Client S) P)
    → IsActed (IsAskingCall acts awaited asks_for) old number (given, (asked, did)) new
    → HasRequest asks_for new.slots number asked
has_request acts awaited asks_for old number given None did new it = tt
has_request {S} acts awaited asks_for old number given (Some server) did new it = λ client is.
    let same : it.now ≡ client = cc (sym it.moved.after ∙ is) in
    subst (λ (c : Client S). IsSome (asks_for c.session)) same it.made.request

-- a call, and what is done for whom it asks
pub made : {S P I O : Type 0} (acts : AskingActs S P I O) (awaited : S → List ℕ)
    (asks_for : S → Option Request) (p old : MuxState S P) (number : ℕ) (given : Given I) (due : ℕ)
    (asked : Option ℕ) (did : O) (stopped : Option O) (mid : RosterState (Client S) P)
    (new : MuxState S P) → p ≡ old → Calls acts awaited p.roster number given asked did mid
    → SendEnds acts awaited asks_for (record p { roster = mid }) number asked due stopped new
    → IsMade acts awaited asks_for old number given due (record { did = did; stopped = stopped })
    new
made {S} {P} {I} {O} acts awaited asks_for p old number given due asked did stopped mid new same
    called sends =
    let done : Done O = record { did = did; stopped = stopped } in
    subst (λ (m : MuxState S P). IsMade acts awaited asks_for m number given due done new) same
    (record { asked = asked; mid = mid; called = called; sends = sends })
