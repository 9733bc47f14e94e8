-- When a number rests whose client stays since a request of it is under way.
use Rattle.std.proofs.Common.{◌≡◌, ◌≢◌, ℕ, List, [], sym, ap, subst, ◌∙◌, inl, inr, Option, Some, None}
use Rattle.std.specs.Prelude.{option_map}
use Rattle.tko_roster.specs.Rosters.{session_at}
use Rattle.tko_mux.specs.declared.client.Client.{Client}
use Rattle.tko_mux.specs.Linking.{IsNotForgotten, awaited_by}
use Rattle.tko_port.specs.declared.guest.Guest.{Guest}
use Rattle.tko_port.specs.declared.guest.Presence.TheVariants.{Leaving}
use Rattle.tko_port.specs.declared.settling.End.{End}
use Rattle.tko_port.specs.Guests.{RestsBy, guest_seen}
use Rattle.tko_worker.specs.Workers.{RestAt, Rests, Sight}

-- nobody has the number, or one that leaves and awaits a server
pub leaver_rests : {L T : Type 0} (sight : Sight L T) (slots : List (Option (Client (Guest L T))))
    (number : ℕ) (client : Client (Guest L T)) (why : End) → session_at slots number ≡ Some client
    → client.session.presence ≡ Leaving why → sight.0 client.session.talk ≢ []
    → RestAt sight slots number
leaver_rests sight slots number client why is leaves some =
    subst (Rests sight) (sym is) (subst (λ p. RestsBy p
    (guest_seen sight.0 sight.1 sight.2 client.session)) (sym leaves) some)

pub nobody_rests : {L T : Type 0} (sight : Sight L T) (slots : List (Option (Client (Guest L T))))
    (number : ℕ) → session_at slots number ≡ None → RestAt sight slots number
nobody_rests sight slots number none = subst (Rests sight) (sym none) tt

-- the session that a number was found to have
pub found_at : {L T : Type 0} (slot : Option (Client (Guest L T))) (guest : Guest L T)
    → Some guest ≡ option_map (λ client. client.session) slot
    → slot ≡ Some (record { session = guest })
found_at None guest is = absurd (let f : ⊥ = cc is in f)
found_at {L} {T} (Some client) guest is =
    let same : guest ≡ client.session = cc is in
    ap (λ (g : Guest L T). Some (record { session = g })) (sym same)

kept_awaits : {L T : Type 0} (sight : Sight L T) (slots : List (Option (Client (Guest L T))))
    (number : ℕ) (client : Client (Guest L T))
    → IsNotForgotten (λ guest. sight.0 guest.talk) slots number → session_at slots number ≡ Some client
    → sight.0 client.session.talk ≢ []
kept_awaits sight slots number client (inl none) is =
    absurd (let both = sym none ∙ is in let f : ⊥ = cc both in f)
kept_awaits sight slots number client (inr some) is = λ none.
    some (ap (awaited_by (λ guest. sight.0 guest.talk)) is ∙ none)

-- a client of which a request is under way rests, if it is to leave then
pub kept_leaves : {L T : Type 0} (sight : Sight L T) (slots : List (Option (Client (Guest L T))))
    (number : ℕ) (guest : Guest L T) (why : End)
    → IsNotForgotten (λ it. sight.0 it.talk) slots number
    → session_at slots number ≡ Some (record { session = guest }) → guest.presence ≡ Leaving why
    → RestAt sight slots number
kept_leaves sight slots number guest why kept is leaves =
    leaver_rests sight slots number (record { session = guest }) why is leaves
    (kept_awaits sight slots number (record { session = guest }) kept is)
