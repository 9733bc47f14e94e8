-- The members of a server's pool.
use Rattle.std.proofs.Common.{◌≡◌, ◌∙◌, ℕ, zero, suc, ◌+◌, List, All, [], ◌∷◌, ◌++◌, ap, arith, length, map, refl, subst, sym}
use Rattle.std.proofs.lemmas.Grind.{length_at_push}
use Rattle.std.proofs.lemmas.List.{append_assoc, map-append}
use Rattle.std.proofs.lemmas.List.Elements.{All-push}
use Rattle.tko_desk.specs.Ledger.{fresh_share, fresh_shares}
use Rattle.tko_tcp.specs.TcpWires.{TcpState}
use Rattle.tko_links.specs.Wired.{WiredState}
use Rattle.tko_threads.specs.declared.pooling.Member.{Member}
use Rattle.tko_server.specs.declared.running.Options.{Options}
use Rattle.tko_server.specs.Members.{HasOptions}

-- one member more, with what the options ask for
pub one_more_asked : {C P S M : Type 0} (options : Options)
    (before after : List (Member C P S (WiredState TcpState) M))
    (member : Member C P S (WiredState TcpState) M) → after ≡ before ++ member ∷ []
    → All (λ m. HasOptions options m.parts) before → HasOptions options member.parts
    → All (λ m. HasOptions options m.parts) after
one_more_asked {C} {P} {S} {M} options before after member pushed asked one =
    let A : Member C P S (WiredState TcpState) M → Type 0 = λ m. HasOptions options m.parts in
    subst (All A) (sym pushed) (All-push A before member asked one)

-- one member more, and one seat and one share less to come
pub one_seat_less : {P H D : Type 0} (seats later : List P) (seat : P) (shares left : List H)
    (share : H) (before after : List D) (member : D) (threads : ℕ) → seats ≡ seat ∷ later
    → shares ≡ share ∷ left → after ≡ before ++ member ∷ []
    → length before + length seats ≡ threads → length shares ≡ length seats
    → (length after + length later ≡ threads) × (length left ≡ length later)
one_seat_less seats later _ shares left _ before after member _ taken lent pushed counted same =
    let one_more : length after ≡ length before + 1 =
    ap length pushed ∙ (length_at_push before member).1 in
    let fewer_seats : length seats ≡ length later + 1 = omega (arith, ap length taken) in
    let fewer_shares : length shares ≡ length left + 1 = omega (arith, ap length lent) in (
      omega (arith, one_more, fewer_seats, counted),
      omega (arith, fewer_seats, fewer_shares, same),
    )

-- one pass more has its member
pub one_more_seated : {C P S L M : Type 0} (seats later all : List P) (seat : P)
    (before after : List (Member C P S L M)) (member : Member C P S L M) → seats ≡ seat ∷ later
    → after ≡ before ++ member ∷ [] → member.idle ≡ seat
    → map (λ m. m.idle) before ++ seats ≡ all → map (λ m. m.idle) after ++ later ≡ all
one_more_seated {C} {P} {S} {L} {M} seats later all seat before after member taken pushed same seated =
    let idle : Member C P S L M → P = λ m. m.idle in
    let grown : map idle after ≡ map idle before ++ seat ∷ [] =
    ap (map idle) pushed ∙ map-append idle before (member ∷ [])
    ∙ ap (λ p. map idle before ++ p ∷ []) same in
    ap (λ xs. xs ++ later) grown ∙ append_assoc (map idle before) (seat ∷ []) later
    ∙ ap (λ xs. map idle before ++ xs) (sym taken) ∙ seated

-- a ledger has so many shares
pub number_of_shares : (name shares : ℕ) → length (fresh_shares name shares) ≡ shares
number_of_shares name zero = refl
number_of_shares name (suc n) =
    let fresh = fresh_shares name n in
    let one_more : length (fresh ++ fresh_share name n ∷ []) ≡ length fresh + 1 =
    (length_at_push fresh (fresh_share name n)).1 in omega (arith, one_more, number_of_shares name n)
