-- Who rests once a client was served.
use Rattle.std.proofs.Common.{[], ◌≡◌, ◌≢◌, ◌⊎◌, ℕ, List, sym, ap, subst, ◌∙◌, inl, inr, Option}
use Rattle.std.proofs.Common.{Some, None}
use Rattle.std.specs.Prelude.{IfNone, IfSome}
use Rattle.tko_text.specs.declared.request.Request.{Request}
use Rattle.tko_roster.specs.Rosters.{IsAdmitted, RosterState, session_at}
use Rattle.tko_mux.specs.declared.asking.Given.{Given}
use Rattle.tko_mux.specs.declared.asking.Given.TheVariants.{Input}
use Rattle.tko_mux.specs.declared.client.Client.{Client}
use Rattle.tko_mux.specs.declared.mux.delivery.Done.{Done}
use Rattle.tko_mux.specs.Asks.{AskingActs}
use Rattle.tko_mux.specs.Muxes.{IsMade, MuxState, SendEnds}
use Rattle.tko_port.specs.declared.guest.ClientEvent.TheVariants.{Serve}
use Rattle.tko_port.specs.declared.guest.Guest.{Guest}
use Rattle.tko_port.specs.declared.guest.Presence.{Presence}
use Rattle.tko_port.specs.declared.guest.Presence.TheVariants.{Here, Leaving}
use Rattle.tko_port.specs.declared.guest.SharedParts.{SharedParts}
use Rattle.tko_port.specs.declared.guest.Turned.{Turned}
use Rattle.tko_port.specs.declared.guest.Turned.TheVariants as turned
use Rattle.tko_port.specs.Guests.{IsGuestCall, RestsBy, Seen, ServedAs, ServesAs, guest_seen, presence_of}
use Rattle.tko_port.specs.Ports.{PortState}
use Rattle.tko_port.specs.Rests.{AtRest, RestsAt}
use Rattle.tko_port.specs.Talks.{Talk}
use Rattle.tko_worker.specs.Workers.{IsNotedToServe, IsNumberServed, RestAt, Rests, Sight, WasServed}

-- one that was served, and found to rest or to wait for what it asked
abbrev pub WasFoundResting : Turned → Type 0
WasFoundResting did = (did ≡ turned.Rests) ⊎ (did ≡ turned.Asks)

found_rests : (did : Turned) (awaited : List ℕ) (talk : Talk) (port : PortState)
    → WasFoundResting did → ServedAs did awaited talk port → AtRest awaited talk port
found_rests did awaited talk port (inl rests) served =
    subst (λ d. ServedAs d awaited talk port) rests served
found_rests did awaited talk port (inr asks) served =
    let waits : ServedAs turned.Asks awaited talk port =
    subst (λ d. ServedAs d awaited talk port) asks served in
    subst (λ stage. RestsAt stage awaited talk.output port) (sym waits.0) waits.1

-- only one that is still served is
found_here : (presence : Presence) (asked : Option ℕ) (did : Turned) (old new : Seen)
    → WasFoundResting did → ServesAs presence asked did old new
    → ServedAs did new.awaited new.talk new.port × (new.presence ≡ Here)
found_here Here asked did old new (inl rests) serves =
    (serves.0, serves.2 ∙ ap presence_of rests)
found_here Here asked did old new (inr asks) serves = (serves.0, serves.2 ∙ ap presence_of asks)
found_here (Leaving why) asked did old new (inl rests) serves =
    let both = sym rests ∙ serves.0 in absurd (let f : ⊥ = cc both in f)
found_here (Leaving why) asked did old new (inr asks) serves =
    let both = sym asks ∙ serves.0 in absurd (let f : ⊥ = cc both in f)

-- where memory did not run out for its request, a session stays as it was called
send_kept : {S P I O : Type 0} (acts : AskingActs S P I O) (awaited : S → List ℕ)
    (asks_for : S → Option Request) (mid new : MuxState S P) (number due : ℕ) (asked : Option ℕ)
    (stopped : Option O) → stopped ≡ None
    → SendEnds acts awaited asks_for mid number asked due stopped new → new.roster ≡ mid.roster
send_kept {S} {P} acts awaited asks_for mid new number due None stopped none sends =
    ap (λ (m : MuxState S P). m.roster) sends.1
send_kept acts awaited asks_for mid new number due (Some server) None none sends = sends.kept
send_kept acts awaited asks_for mid new number due (Some server) (Some did) none sends =
    absurd (let f : ⊥ = cc none in f)

-- a client that was found to rest does
pub served_rests : {L T P : Type 0} (sight : Sight L T)
    (asks_for : Guest L T → Option Request) (old new : MuxState (Guest L T) (SharedParts P))
    (number due : ℕ) (done : Done Turned)
    → IsMade (IsGuestCall sight.0 sight.1 sight.2) (λ guest. sight.0 guest.talk) asks_for old number
    (Input Serve) due done new
    → done.stopped ≡ None → WasFoundResting done.did → RestAt sight new.roster.slots number
served_rests {L} {T} {P} sight asks_for old new number due done made sent rests =
    let call = made.called in
    let does = found_here call.was.session.presence made.asked done.did
    (guest_seen sight.0 sight.1 sight.2 call.was.session)
    (guest_seen sight.0 sight.1 sight.2 call.now.session) rests call.made.made.did in
    let at_rest : AtRest (sight.0 call.now.session.talk) (sight.1 call.now.session.talk)
    (sight.2 call.now.session.port) =
    found_rests done.did (sight.0 call.now.session.talk) (sight.1 call.now.session.talk)
    (sight.2 call.now.session.port) rests does.0 in
    let roster : new.roster ≡ made.mid =
    send_kept (IsGuestCall sight.0 sight.1 sight.2) (λ guest. sight.0 guest.talk) asks_for
    (record old { roster = made.mid }) new number due made.asked done.stopped sent made.sends in
    let here : session_at new.roster.slots number ≡ Some call.now =
    ap (λ (r : RosterState (Client (Guest L T)) (SharedParts P)). session_at r.slots number) roster
    ∙ call.moved.after in
    subst (Rests sight) (sym here) (subst (λ p. RestsBy p
    (guest_seen sight.0 sight.1 sight.2 call.now.session)) (sym does.1) at_rest)

-- one that was served, and noted unless it rests
pub served_after : {L T P : Type 0} (sight : Sight L T) (asks_for : Guest L T → Option Request)
    (old mid new : MuxState (Guest L T) (SharedParts P)) (number due : ℕ) (spent now_spent : List ℕ)
    → WasServed sight asks_for old number due mid
    → IsNotedToServe sight new.roster.slots number [] spent now_spent
    → IsNumberServed sight asks_for old number due new spent now_spent
served_after sight asks_for old mid new number due spent now_spent was (inl (inl rests, same)) =
    inl (rests, same)
served_after sight asks_for old mid new number due spent now_spent was (inl (inr is, same)) =
    absurd is
served_after sight asks_for old mid new number due spent now_spent was (inr is) =
    inr ((mid, was), is)

-- nobody else's session changes where one asks
send_others : {S P I O : Type 0} (acts : AskingActs S P I O) (awaited : S → List ℕ)
    (asks_for : S → Option Request) (mid new : MuxState S P) (number due : ℕ) (asked : Option ℕ)
    (stopped : Option O) → SendEnds acts awaited asks_for mid number asked due stopped new
    → (other : ℕ) → other ≢ number
    → session_at new.roster.slots other ≡ session_at mid.roster.slots other
send_others {S} {P} acts awaited asks_for mid new number due None stopped sends other apart =
    ap (λ (m : MuxState S P). session_at m.roster.slots other) sends.1
send_others {S} {P} acts awaited asks_for mid new number due (Some server) None sends other apart =
    ap (λ (r : RosterState (Client S) P). session_at r.slots other) sends.kept
send_others acts awaited asks_for mid new number due (Some server) (Some did) sends other apart =
    sends.told.moved.others other apart

pub made_others : {S P I O : Type 0} (acts : AskingActs S P I O) (awaited : S → List ℕ)
    (asks_for : S → Option Request) (old new : MuxState S P) (number due : ℕ) (given : Given I)
    (done : Done O) → IsMade acts awaited asks_for old number given due done new → (other : ℕ)
    → other ≢ number → session_at new.roster.slots other ≡ session_at old.roster.slots other
made_others acts awaited asks_for old new number due given done made other apart =
    send_others acts awaited asks_for (record old { roster = made.mid }) new number due made.asked
    done.stopped made.sends other apart
    ∙ made.called.moved.others other apart

-- nobody else's session changes by a call
pub act_others : {S P I O : Type 0} (acts : AskingActs S P I O) (awaited : S → List ℕ)
    (asks_for : S → Option Request) (old new : MuxState S P) (number due : ℕ) (given : Given I)
    (result : Option (Done O))
    → IfSome result (λ done. IsMade acts awaited asks_for old number given due done new)
    → IfNone result (new ≡ old) → (other : ℕ) → other ≢ number
    → session_at new.roster.slots other ≡ session_at old.roster.slots other
act_others {S} {P} acts awaited asks_for old new number due given None made kept other apart =
    ap (λ (m : MuxState S P). session_at m.roster.slots other) kept
act_others acts awaited asks_for old new number due given (Some done) made kept other apart =
    send_others acts awaited asks_for (record old { roster = made.mid }) new number due made.asked
    done.stopped made.sends other apart
    ∙ made.called.moved.others other apart

pub admitted_others : {S P : Type 0} (old new : RosterState S P) (number : ℕ) (session : S)
    → IsAdmitted old number session new → (other : ℕ) → other ≢ number
    → session_at new.slots other ≡ session_at old.slots other
admitted_others old new number session step other apart = step.moved.others other apart
