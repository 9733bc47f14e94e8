-- Who rests once something reached a client.
use Rattle.std.proofs.Common.{◌≡◌, ◌⊎◌, ℕ, List, sym, ap, subst, ◌∙◌, inl, inr, Option, Some, None}
use Rattle.std.specs.Prelude.{Result, Ok, Err}
use Rattle.tko_text.specs.declared.response.Response.{Response}
use Rattle.tko_pipe.specs.declared.fates.ShutCause.{ShutCause}
use Rattle.tko_text.specs.declared.request.Request.{Request}
use Rattle.tko_roster.specs.Rosters.{RosterState, session_at}
use Rattle.tko_mux.specs.declared.client.Client.{Client}
use Rattle.tko_pipe.specs.declared.waiter.Asker.{Asker}
use Rattle.tko_mux.specs.declared.asking.Came.{Came}
use Rattle.tko_mux.specs.declared.mux.delivery.Delivery.{Delivery}
use Rattle.tko_mux.specs.declared.mux.delivery.Delivery.TheVariants.{Dropped, Probed, Reached}
use Rattle.tko_mux.specs.Muxes.{GoesToClient, IsDelivered, IsResponseRead, MuxState, TellEnds, WaitsFor}
use Rattle.tko_port.specs.declared.guest.Guest.{Guest}
use Rattle.tko_port.specs.declared.guest.SharedParts.{SharedParts}
use Rattle.tko_port.specs.declared.guest.Turned.{Turned}
use Rattle.tko_port.specs.Guests.{IsGuestCall}
use Rattle.tko_worker.specs.Numbers.{IsIn}
use Rattle.tko_worker.specs.Workers.{IsListedFor, NobodyForgotten, OthersStayFor, RestAt}
use Rattle.tko_worker.specs.Workers.{Rests, Sight}
use Rattle.tko_worker.proofs.RestLemmas.{made_others}
use Rattle.tko_worker.proofs.ListedLemmas.{one_listed}

-- nobody else's session changes by what came
pub delivered_others : {L T P : Type 0} (sight : Sight L T)
    (asks_for : Guest L T → Option Request) (old new : MuxState (Guest L T) (SharedParts P))
    (server : ℕ) (by : Asker) (what : Came) (due : ℕ) (delivery : Delivery Turned)
    → IsDelivered (IsGuestCall sight.0 sight.1 sight.2) (λ guest. sight.0 guest.talk) asks_for old
    server by what due delivery new
    → OthersStayFor delivery old.roster.slots new.roster.slots
delivered_others sight asks_for old new server by what due (Reached number done) is =
    made_others (IsGuestCall sight.0 sight.1 sight.2) (λ guest. sight.0 guest.talk) asks_for old new
    number due _ done is.1
delivered_others {L} {T} {P} sight asks_for old new server by what due (Probed it) is =
    λ other. ap (λ (m : MuxState (Guest L T) (SharedParts P)). session_at m.roster.slots other) is.2
delivered_others {L} {T} {P} sight asks_for old new server by what due (Dropped number) is =
    λ other. ap (λ (m : MuxState (Guest L T) (SharedParts P)). session_at m.roster.slots other) is.1

same_rest : {L T : Type 0} (sight : Sight L T) (old new : List (Option (Client (Guest L T))))
    (number : ℕ) (B : Type 0) → session_at new number ≡ session_at old number
    → RestAt sight old number ⊎ B → RestAt sight new number ⊎ B
same_rest sight old new number B same (inl rests) = inl (subst (Rests sight) (sym same) rests)
same_rest sight old new number B same (inr is) = inr is

-- once the client that something reached was noted, nobody is forgotten
pub one_reached : {L T : Type 0} (sight : Sight L T)
    (old mid new : List (Option (Client (Guest L T)))) (delivery : Delivery Turned)
    (touched now_touched spent : List ℕ) → NobodyForgotten sight old touched spent
    → OthersStayFor delivery old mid → OthersStayFor delivery mid new
    → IsListedFor sight new delivery spent touched now_touched
    → NobodyForgotten sight new now_touched spent
one_reached sight old mid new (Reached number done) touched now_touched spent nobody first second
    listed =
    one_listed sight old mid new number touched now_touched spent nobody first second listed
one_reached sight old mid new (Probed it) touched now_touched spent nobody first second same =
    λ number.
    subst (λ (t : List ℕ). RestAt sight new number ⊎ (IsIn number t ⊎ IsIn number spent))
    (sym same)
    (same_rest sight old new number (IsIn number touched ⊎ IsIn number spent)
    (second number ∙ first number) (nobody number))
one_reached sight old mid new (Dropped it) touched now_touched spent nobody first second same =
    λ number.
    subst (λ (t : List ℕ). RestAt sight new number ⊎ (IsIn number t ⊎ IsIn number spent))
    (sym same)
    (same_rest sight old new number (IsIn number touched ⊎ IsIn number spent)
    (second number ∙ first number) (nobody number))

-- the next that left, or none: nobody else's session changes
pub leave_others : {L T P : Type 0} (sight : Sight L T) (asks_for : Guest L T → Option Request)
    (old new : MuxState (Guest L T) (SharedParts P)) (server due : ℕ) (delivery : Delivery Turned)
    (result : Option (Delivery Turned))
    → TellEnds (IsGuestCall sight.0 sight.1 sight.2) (λ guest. sight.0 guest.talk) asks_for old
    server due result new
    → result ≡ Some delivery
    → OthersStayFor delivery old.roster.slots new.roster.slots
leave_others {L} {T} {P} sight asks_for old new server due delivery result ends is =
    let told : TellEnds (IsGuestCall sight.0 sight.1 sight.2) (λ guest. sight.0 guest.talk)
    asks_for
    old server due (Some delivery) new =
    subst (λ r. TellEnds (IsGuestCall sight.0 sight.1 sight.2) (λ guest. sight.0 guest.talk)
    asks_for old server due r new) is ends in
    delivered_others sight asks_for (record old { lines = told.lines }) new server told.by _ due
    delivery
    told.reaches

-- a response that was read, or none: nobody else's session changes
pub read_others : {L T P : Type 0} (sight : Sight L T) (asks_for : Guest L T → Option Request)
    (mid new : MuxState (Guest L T) (SharedParts P)) (server due : ℕ) (delivery : Delivery Turned)
    (taken : Result (Option (Asker × Response)) ShutCause)
    → GoesToClient (IsGuestCall sight.0 sight.1 sight.2)
    (λ guest. sight.0 guest.talk) asks_for mid server
    taken due (Ok (Some delivery)) new
    → OthersStayFor delivery mid.roster.slots new.roster.slots
read_others sight asks_for mid new server due delivery (Ok None) reaches =
    absurd (let e = reaches.0 in let f : ⊥ = cc e in f)
read_others sight asks_for mid new server due delivery (Err cause) reaches =
    absurd (let e = reaches.0 in let f : ⊥ = cc e in f)
read_others sight asks_for mid new server due delivery (Ok (Some found)) reaches =
    let same : reaches.0 ≡ delivery = let e = reaches.1 in cc (e) in
    subst (λ d. OthersStayFor d mid.roster.slots new.roster.slots) same
    (delivered_others sight asks_for mid new server found.0 _ due reaches.0 reaches.2)

-- where no response came, the sessions stay
pub unread_roster : {L T P : Type 0} (sight : Sight L T) (asks_for : Guest L T → Option Request)
    (mid new : MuxState (Guest L T) (SharedParts P)) (server due : ℕ)
    (taken : Result (Option (Asker × Response)) ShutCause)
    (result : Result (Option (Delivery Turned)) ShutCause)
    → GoesToClient (IsGuestCall sight.0 sight.1 sight.2)
    (λ guest. sight.0 guest.talk) asks_for mid server
    taken due result new
    → ((delivery : Delivery Turned) → result ≡ Ok (Some delivery) → ⊥)
    → new.roster ≡ mid.roster
unread_roster sight asks_for mid new server due (Ok None) result reaches none =
    ap (λ (m : MuxState _ _). m.roster) reaches.1
unread_roster sight asks_for mid new server due (Err cause) result reaches none =
    ap (λ (m : MuxState _ _). m.roster) reaches.1
unread_roster sight asks_for mid new server due (Ok (Some found)) result reaches none =
    absurd (none reaches.0 reaches.1)

pub take_others : {L T P : Type 0} (sight : Sight L T) (asks_for : Guest L T → Option Request)
    (waits_for : WaitsFor (Guest L T)) (old new : MuxState (Guest L T) (SharedParts P)) (server due : ℕ)
    (delivery : Delivery Turned)
    (result : Result (Option (Delivery Turned)) ShutCause)
    → IsResponseRead (IsGuestCall sight.0 sight.1 sight.2) (λ guest. sight.0 guest.talk) asks_for
    waits_for old server due result new
    → result ≡ Ok (Some delivery)
    → OthersStayFor delivery old.roster.slots new.roster.slots
take_others sight asks_for waits_for old new server due delivery result read is =
    read_others sight asks_for (record old { lines = read.lines }) new server due delivery
    read.taken
    (subst (λ r. GoesToClient (IsGuestCall sight.0 sight.1 sight.2) (λ guest. sight.0 guest.talk)
    asks_for
    (record old { lines = read.lines }) server read.taken due r new) is read.reaches)

-- where no response came, nobody is forgotten
pub unread_nobody : {L T P : Type 0} (sight : Sight L T) (asks_for : Guest L T → Option Request)
    (waits_for : WaitsFor (Guest L T)) (old new : MuxState (Guest L T) (SharedParts P)) (server due : ℕ)
    (touched spent : List ℕ)
    (result : Result (Option (Delivery Turned)) ShutCause)
    → IsResponseRead (IsGuestCall sight.0 sight.1 sight.2) (λ guest. sight.0 guest.talk) asks_for
    waits_for old server due result new
    → ((delivery : Delivery Turned) → result ≡ Ok (Some delivery) → ⊥)
    → NobodyForgotten sight old.roster.slots touched spent
    → NobodyForgotten sight new.roster.slots touched spent
unread_nobody {L} {T} {P} sight asks_for waits_for old new server due touched spent result read
    none nobody =
    let same : new.roster ≡ old.roster =
    unread_roster sight asks_for (record old { lines = read.lines }) new server due read.taken
    result read.reaches none in
    subst (λ (r : RosterState (Client (Guest L T)) (SharedParts P)).
    NobodyForgotten sight r.slots touched spent) (sym same) nobody
