-- The members of a server whose workers are event-driven.
use Rattle.std.proofs.Common.{◌≡◌, ◌∙◌, ℕ, ◌+◌, ◌<◌, List, All, [], ◌∷◌, ◌++◌, add-one, ap, arith, get_or, length, map, subst, sym, take}
use Rattle.std.proofs.Math.Seq.{take-suc}
use Rattle.std.proofs.lemmas.Grind.{length_at_push}
use Rattle.std.proofs.lemmas.List.{append_assoc, map-append}
use Rattle.std.proofs.lemmas.List.Elements.{All-push}
use Rattle.tko_loop.specs.Addresses.{AreAddressesOf as IsAddressesOf}
use Rattle.tko_loop.specs.declared.addresses.Addresses.{Addresses}
use Rattle.tko_model.proofs.RecordLemmas.{gains_pushed}
use Rattle.tko_server.specs.EventMembers.{AreServersAt, HasEventOptions, IsOneMore, IsEventReadyAt}
use Rattle.tko_server.specs.declared.event_members.EventMember.{EventMember}
use Rattle.tko_server.specs.declared.running.Options.{Options}
use Rattle.tko_tcp.specs.ServerHosts.{LeadsTo}
use Rattle.tko_tcp.specs.declared.server_host.ServerHost.{ServerHost}
use Rattle.tko_tracker.specs.Seated.{Seated, TrackerId}

-- one member more, with what the options ask for
pub one_more_event_asked : {P S : Type 0} (options : Options)
    (before after : List (EventMember P S)) (member : EventMember P S) → after ≡ before ++ member ∷ []
    → All (λ m. HasEventOptions options m.parts) before → HasEventOptions options member.parts
    → All (λ m. HasEventOptions options m.parts) after
one_more_event_asked {P} {S} options before after member pushed asked one =
    let A : EventMember P S → Type 0 = λ m. HasEventOptions options m.parts in
    subst (All A) (sym pushed) (All-push A before member asked one)

-- one member more that is ready
pub one_more_event_ready : {S : Type 0} (tracker : TrackerId)
    (before after : List (EventMember Seated S)) (member : EventMember Seated S)
    → after ≡ before ++ member ∷ [] → All (λ m. IsEventReadyAt tracker m) before
    → IsEventReadyAt tracker member → All (λ m. IsEventReadyAt tracker m) after
one_more_event_ready {S} tracker before after member pushed ready one =
    let A : EventMember Seated S → Type 0 = λ m. IsEventReadyAt tracker m in
    subst (All A) (sym pushed) (All-push A before member ready one)

-- one pass more has its member
pub one_more_event_seated : {P S : Type 0} (seats later all : List P) (seat : P)
    (before after : List (EventMember P S)) (member : EventMember P S) → seats ≡ seat ∷ later
    → after ≡ before ++ member ∷ [] → member.idle ≡ seat
    → map (λ m. m.idle) before ++ seats ≡ all → map (λ m. m.idle) after ++ later ≡ all
one_more_event_seated {P} {S} seats later all seat before after member taken pushed same seated =
    let idle : EventMember P S → P = λ m. m.idle in
    let grown : map idle after ≡ map idle before ++ seat ∷ [] =
    ap (map idle) pushed ∙ map-append idle before (member ∷ [])
    ∙ ap (λ p. map idle before ++ p ∷ []) same in
    ap (λ xs. xs ++ later) grown ∙ append_assoc (map idle before) (seat ∷ []) later
    ∙ ap (λ xs. map idle before ++ xs) (sym taken) ∙ seated

-- one member more, and one way more
pub one_more_way : {W M : Type 0} (ways more_ways : List W) (way : W) (members more : List M)
    (member : M) → more_ways ≡ ways ++ way ∷ [] → more ≡ members ++ member ∷ []
    → length ways ≡ length members → length more_ways ≡ length more
one_more_way ways more_ways way members more member added pushed same =
    let one : length more_ways ≡ length ways + 1 = ap length added ∙ (length_at_push ways way).1 in
    let other : length more ≡ length members + 1 =
    ap length pushed ∙ (length_at_push members member).1 in omega (arith, one, other, same)

-- one address more
pub next_address : {A : Type 0} (text_of : A → List ℕ) (all : List A) (place : ℕ) (item : A)
    (text : List ℕ) → place < length all → item ≡ get_or all place item → text ≡ text_of item
    → map text_of (take (place + 1) all) ≡ map text_of (take place all) ++ text ∷ []
next_address text_of all place item text inside here same =
    let one_more : take (place + 1) all ≡ take place all ++ get_or all place item ∷ [] =
    rw add-one (take-suc all place item inside) in
    ap (map text_of) one_more ∙ map-append text_of (take place all) (get_or all place item ∷ [])
    ∙ ap (λ t. map text_of (take place all) ++ t ∷ []) (ap text_of (sym here) ∙ sym same)

-- one server more, which is where the next address leads
pub one_more_server : (addresses all : List (List ℕ)) (address : List ℕ)
    (before after : List Addresses) (it : Addresses) → ((host : ServerHost) × LeadsTo address host × IsAddressesOf host it)
    → after ≡ before ++ it ∷ [] → all ≡ addresses ++ address ∷ [] → AreServersAt addresses before
    → AreServersAt all after
one_more_server addresses all address before after it found pushed more at =
    let one : IsOneMore before address after =
    record { it = it; host = found.0; leads = found.1; is = found.2; pushed = pushed } in
    gains_pushed at one more
