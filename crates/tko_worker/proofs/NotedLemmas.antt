-- An event that is noted at a client's port.
use Rattle.std.proofs.Common.{arith, ◌≡◌, ℕ, List, inl, inr, refl, sym, ap, subst, ◌∙◌, Option, Some, None}
use Rattle.std.specs.Prelude.{◌==◌, IfNone, IfSome}
use Rattle.std.proofs.lemmas.Bool.{eq-eqb}
use Rattle.tko_text.specs.declared.request.Request.{Request}
use Rattle.tko_roster.specs.Rosters.{IsActed, IsReleased, session_at}
use Rattle.tko_mux.specs.declared.asking.Given.TheVariants.{Input}
use Rattle.tko_mux.specs.declared.mux.delivery.Done.{Done}
use Rattle.tko_mux.specs.Asks.{IsCall}
use Rattle.tko_mux.specs.Awaits.{IsAsking, one_if, times_due}
use Rattle.tko_mux.specs.Linking.{IsNotForgotten, awaited_at, awaited_by}
use Rattle.tko_mux.specs.Muxes.{IsMade, MuxState, SendEnds}
use Rattle.tko_port.specs.declared.settling.End.{End}
use Rattle.tko_port.specs.declared.guest.ClientEvent.{ClientEvent}
use Rattle.tko_port.specs.declared.guest.ClientEvent.TheVariants.{Ended, Leave, Readable, Serve, Writable}
use Rattle.tko_port.specs.declared.guest.Guest.{Guest}
use Rattle.tko_port.specs.declared.guest.Presence.{Presence}
use Rattle.tko_port.specs.declared.guest.Presence.TheVariants.{Leaving}
use Rattle.tko_port.specs.declared.guest.SharedParts.{SharedParts}
use Rattle.tko_port.specs.declared.guest.Turned.{Turned}
use Rattle.tko_port.specs.declared.guest.Turned.TheVariants as turned
use Rattle.tko_port.specs.Ports.{PortState}
use Rattle.tko_port.specs.Guests.{EventKeeps, GuestDoes, IsGuestCall, IsNotice, Seen, guest_seen, noting, presence_after}
use Rattle.tko_worker.specs.Workers.{DropEnds, HasReached, IsNotedAt, OthersStay, RestAt, Sight, left, nobody, noted}
use Rattle.tko_worker.proofs.KeptLemmas.{leaver_rests, nobody_rests}
use Rattle.tko_worker.specs.declared.ends.EndCounts.{EndCounts}
use Rattle.tko_worker.specs.Counts.{counted_end}

asks_nobody : (asked : Option ℕ) (old new : List ℕ) → new ≡ old → IsAsking asked old new
    → asked ≡ None
asks_nobody None old new same asking = refl
asks_nobody (Some server) old new same asking =
    let here = asking server in
    let as_before : times_due new server ≡ times_due old server =
    ap (λ a. times_due a server) same in
    let one : one_if (server == server) ≡ 1 = ap one_if (eq-eqb server server refl) in
    absurd (omega (arith, here, as_before, one))

-- what a notice does: one flag of the port, and no more
does_note : (event : ClientEvent) (asked : Option ℕ) (did : Turned) (old new : Seen) → IsNotice event
    → GuestDoes (Input event) asked did old new → new ≡ record old {
      port = noting event old.port;
      presence = presence_after event old.presence;
    }
does_note Readable asked did old new is does = does.1
does_note Writable asked did old new is does = does.1
does_note Ended asked did old new is does = does.1
does_note (Leave why) asked did old new is does = does.1
does_note Serve asked did old new is does = absurd is

keeps_talk : {L T P : Type 0} (event : ClientEvent) (old new : Guest L T × SharedParts P) → IsNotice event
    → EventKeeps (Input event) old new → (new.0.talk ≡ old.0.talk) × (new.1 ≡ old.1)
keeps_talk Readable old new is keeps = keeps
keeps_talk Writable old new is keeps = keeps
keeps_talk Ended old new is keeps = keeps
keeps_talk (Leave why) old new is keeps = keeps
keeps_talk Serve old new is keeps = absurd is

noted_at : {L T P : Type 0} (sight : Sight L T) (asks_for : Guest L T → Option Request)
    (old new : MuxState (Guest L T) (SharedParts P)) (number : ℕ) (event : ClientEvent)
    (done : Done Turned) → IsNotice event
    → IsMade (IsGuestCall sight.0 sight.1 sight.2) (λ guest. sight.0 guest.talk) asks_for old number
    (Input event) 0 done new
    → IsNotedAt sight.2 event old number new
noted_at {L} {T} {P} sight asks_for old new number event done is made =
    let call = made.called in
    let did = call.made.made in
    let now = does_note event made.asked done.did _ _ is did.did in
    let kept = keeps_talk event _ _ is did.kept in
    let same : sight.0 call.now.session.talk ≡ sight.0 call.was.session.talk =
    ap (λ (s : Seen). s.awaited) now in
    let none : made.asked ≡ None =
    asks_nobody made.asked (sight.0 call.was.session.talk) (sight.0 call.now.session.talk) same
    call.made.asks in
    let sends : SendEnds (IsGuestCall sight.0 sight.1 sight.2) (λ guest. sight.0 guest.talk)
    asks_for (record old { roster = made.mid }) number None 0 done.stopped new =
    subst (λ a. SendEnds (IsGuestCall sight.0 sight.1 sight.2) (λ guest. sight.0 guest.talk)
    asks_for (record old { roster = made.mid }) number a 0 done.stopped new) none made.sends in
    let At : MuxState (Guest L T) (SharedParts P) → Type 0 = λ m. IsNotedAt sight.2 event old number m in
    subst At (sym sends.1) (record {
      was = call.was;
      now = call.now;
      moved = call.moved;
      flag = ap (λ (s : Seen). s.port) now;
      presence = ap (λ (s : Seen). s.presence) now;
      talk = kept.0;
      parts = ap (λ (s : SharedParts P). s) kept.1;
      lines = refl;
      limit = refl;
    })

pub event_reached : {L T P : Type 0} (sight : Sight L T) (asks_for : Guest L T → Option Request)
    (old new : MuxState (Guest L T) (SharedParts P)) (number : ℕ) (event : ClientEvent)
    (result : Option (Done Turned)) → IsNotice event
    → IfSome result (λ done. IsMade (IsGuestCall sight.0 sight.1 sight.2)
    (λ guest. sight.0 guest.talk) asks_for old number (Input event) 0 done new)
    → IfNone result (session_at old.roster.slots number ≡ None) → IfNone result (new ≡ old)
    → HasReached sight.2 event old number new
event_reached sight asks_for old new number event None is made none same =
    nobody none same
event_reached sight asks_for old new number event (Some done) is made none same =
    noted (noted_at sight asks_for old new number event done is made)

-- a client that was taken from its number left
pub client_left : {L T P : Type 0} (sight : Sight L T) (why : End)
    (old new : MuxState (Guest L T) (SharedParts P)) (ends now : EndCounts) (number : ℕ)
    (result : Option (Guest L T)) (guest : Guest L T)
    → IfSome result (λ it. IsReleased (λ client. sight.0 client.session.talk) old.roster number
    (record { session = it }) new.roster)
    → result ≡ Some guest → new.lines ≡ old.lines → new.limit ≡ old.limit
    → now ≡ counted_end why ends → DropEnds sight why (old, ends) number (new, now)
client_left sight why old new ends now number result guest released is lines limit counts =
    left (record {
      client = record { session = guest };
      released = subst (λ r. IfSome r (λ it. IsReleased (λ client. sight.0 client.session.talk)
          old.roster number (record { session = it }) new.roster)) is released;
      lines = lines;
      limit = limit;
    }) counts

-- a client of which a request is under way, and that is to leave, rests
pub leaving_rests : {L T P : Type 0} (sight : Sight L T) (why : End)
    (old new : MuxState (Guest L T) (SharedParts P)) (number : ℕ)
    → IsNotForgotten (λ guest. sight.0 guest.talk) old.roster.slots number
    → HasReached sight.2 (Leave why) old number new → RestAt sight new.roster.slots number
leaving_rests {L} {T} {P} sight why old new number kept (nobody none same) =
    nobody_rests sight new.roster.slots number
    (ap (λ (m : MuxState (Guest L T) (SharedParts P)). session_at m.roster.slots number) same ∙ none)
leaving_rests sight why old new number (inl none) (noted is) =
    absurd (let both = sym is.moved.before ∙ none in let f : ⊥ = cc both in f)
leaving_rests sight why old new number (inr some) (noted is) =
    let before : awaited_at (λ guest. sight.0 guest.talk) old.roster.slots number
    ≡ sight.0 is.was.session.talk =
    ap (awaited_by (λ guest. sight.0 guest.talk)) is.moved.before in
    leaver_rests sight new.roster.slots number is.now why is.moved.after is.presence
    (λ none. some (before ∙ sym (ap sight.0 is.talk) ∙ none))

pub reached_lines : {L T P : Type 0} (sight : Sight L T) (event : ClientEvent)
    (old new : MuxState (Guest L T) (SharedParts P)) (number : ℕ)
    → HasReached sight.2 event old number new → new.lines ≡ old.lines
reached_lines {L} {T} {P} sight event old new number (nobody none same) =
    ap (λ (m : MuxState (Guest L T) (SharedParts P)). m.lines) same
reached_lines sight event old new number (noted is) = is.lines

pub reached_others : {L T P : Type 0} (sight : Sight L T) (event : ClientEvent)
    (old new : MuxState (Guest L T) (SharedParts P)) (number : ℕ)
    → HasReached sight.2 event old number new
    → OthersStay number old.roster.slots new.roster.slots
reached_others {L} {T} {P} sight event old new number (nobody none same) = λ other apart.
    ap (λ (m : MuxState (Guest L T) (SharedParts P)). session_at m.roster.slots other) same
reached_others sight event old new number (noted is) = is.moved.others

-- a client that is to leave was told so
pub leave_acts : {L T P : Type 0} (sight : Sight L T) (why : End)
    (old new : MuxState (Guest L T) (SharedParts P)) (number : ℕ)
    → IsNotedAt sight.2 (Leave why) old number new
    → IsActed (IsCall (IsGuestCall sight.0 sight.1 sight.2) (λ guest. sight.0 guest.talk))
    old.roster number (Input (Leave why), (None, turned.Noted)) new.roster
leave_acts {L} {T} {P} sight why old new number is =
    let was : Guest L T = is.was.session in
    let now : Guest L T = is.now.session in
    let told : Seen = record (guest_seen sight.0 sight.1 sight.2 was) { presence = Leaving why } in
    let same : guest_seen sight.0 sight.1 sight.2 now ≡ told =
    ap (λ (t : T). record {
      awaited = sight.0 t;
      talk = sight.1 t;
      port = sight.2 now.port;
      presence = now.presence;
    }) is.talk
    ∙ ap (λ (p : PortState). record {
      awaited = sight.0 was.talk;
      talk = sight.1 was.talk;
      port = p;
      presence = now.presence;
    }) is.flag
    ∙ ap (λ (p : Presence). record {
      awaited = sight.0 was.talk;
      talk = sight.1 was.talk;
      port = sight.2 was.port;
      presence = p;
    }) is.presence in
    record {
      was = is.was;
      now = is.now;
      moved = is.moved;
      made = record {
        made = record { did = (refl, same); kept = (is.talk, is.parts) };
        asks = λ at. ap (λ (t : T). times_due (sight.0 t) at) is.talk;
      };
    }
