-- The requests for keys that are under way, and those that a client awaits.
use Rattle.std.proofs.Common.{◌≡◌, ◌≢◌, ◌<◌, ℕ, ◌+◌, Bool, true, false, List, [], ◌∷◌, ◌++◌, map}
use Rattle.std.proofs.Common.{Option, Some, None, refl, sym, ap, subst, ◌∙◌, arith, inl, inr}
use Rattle.std.specs.Prelude.{cond, ◌==◌, IsSome, IsTrue, ◌↔◌}
use Rattle.std.specs.Bool.{OnFalse, OnTrue}
use Rattle.std.proofs.lemmas.Bool.Decides.{eqb_tells}
use Rattle.std.proofs.lemmas.Bool.{cases_Bool}
use Rattle.std.proofs.lemmas.List.{map-append}
use Rattle.tko_mux.specs.Awaits.{IsAsking, awaited_one, one_if, times_due}
use Rattle.tko_mux.proofs.AwaitsLemmas.{due_both, due_first}
use Rattle.tko_keys.specs.KeysState.{KeySend, but_first, first_send, without_first}
use Rattle.tko_client.specs.Keys.{TakesAt}

-- the servers that these are to
abbrev pub servers_of : List KeySend → List ℕ
servers_of sends = map (λ (send : KeySend). send.server) sends

due_send : (send : KeySend) (sends : List KeySend) (at : ℕ)
    → times_due (servers_of (send ∷ sends)) at ≡ one_if (send.server == at) + times_due
    (servers_of sends) at
due_send send sends at = due_first send.server (servers_of sends) at

pub due_joined : (one other : List KeySend) (at : ℕ)
    → times_due (servers_of (one ++ other)) at ≡ times_due (servers_of one) at + times_due
    (servers_of other) at
due_joined one other at =
    ap (λ (xs : List ℕ). times_due xs at) (map-append (λ (send : KeySend). send.server) one other)
    ∙ due_both (servers_of one) (servers_of other) at

-- one of them is to a server that is awaited
pub awaits_first : (server : ℕ) (sends : List KeySend) → 0 < times_due (servers_of sends) server
    → IsSome (first_send server sends)
awaits_first server [] some = absurd (omega (arith, some))
awaits_first server (send ∷ sends) some =
    elim (cases_Bool (send.server == server)) [
      | inl is ↦ subst (λ (b : Bool). IsSome (cond b (Some send) (first_send server sends)))
          (sym is) refl
      | inr not ↦ subst (λ (b : Bool). IsSome (cond b (Some send) (first_send server sends)))
          (sym not)
          (awaits_first server sends
          (omega (arith, some, due_send send sends server, ap one_if not)))
    ]

first_by : (b : Bool) (server : ℕ) (send found : KeySend) (sends : List KeySend)
    → (send.server == server) ≡ b → cond b (Some send) (first_send server sends) ≡ Some found
    → (first_send server sends ≡ Some found → found.server ≡ server) → found.server ≡ server
first_by true server send found sends same is later =
    elim (eqb_tells send.server server) [
      | inl eq ↦ let it : send ≡ found = cc in ap (λ (s : KeySend). s.server) (sym it) ∙ eq.1
      | inr ne ↦ absurd (let never : true ≡ false = sym same ∙ ne.0 in let no : ⊥ = cc in no)
    ]
first_by false server send found sends same is later = later is

-- the first at a server is to it
pub first_server : (server : ℕ) (sends : List KeySend) (found : KeySend)
    → first_send server sends ≡ Some found → found.server ≡ server
first_server server [] found is = absurd (let no : ⊥ = cc in no)
first_server server (send ∷ sends) found is =
    first_by (send.server == server) server send found sends refl is
    (first_server server sends found)

left_by : (b : Bool) (server : ℕ) (send found : KeySend) (sends : List KeySend) (at : ℕ)
    → (send.server == server) ≡ b → cond b (Some send) (first_send server sends) ≡ Some found
    → (first_send server sends ≡ Some found
    → times_due (servers_of (without_first server sends)) at + one_if (server == at) ≡ times_due
    (servers_of sends) at)
    → times_due (servers_of (but_first b send sends (without_first server sends))) at + one_if
    (server == at) ≡ times_due (servers_of (send ∷ sends)) at
left_by true server send found sends at same is later =
    elim (eqb_tells send.server server) [
      | inl eq ↦ omega (arith, due_send send sends at, ap (λ (n : ℕ). one_if (n == at)) eq.1)
      | inr ne ↦ absurd (let never : true ≡ false = sym same ∙ ne.0 in let no : ⊥ = cc in no)
    ]
left_by false server send found sends at same is later =
    omega (arith, due_send send sends at, due_send send (without_first server sends) at, later is)

-- without it that server is awaited once less
pub due_left : (server : ℕ) (sends : List KeySend) (found : KeySend) (at : ℕ)
    → first_send server sends ≡ Some found
    → times_due (servers_of (without_first server sends)) at + one_if (server == at) ≡ times_due
    (servers_of sends) at
due_left server [] found at is = absurd (let no : ⊥ = cc in no)
due_left server (send ∷ sends) found at is =
    left_by (send.server == server) server send found sends at refl is
    (due_left server sends found at)

pub due_between : (server : ℕ) (before after : List KeySend) (send : KeySend) (at : ℕ)
    → send.server ≡ server
    → times_due (servers_of (before ++ after)) at + one_if (server == at) ≡ times_due
    (servers_of (before ++ (send ∷ after))) at
due_between server before after send at same =
    omega (
      arith,
      due_joined before after at,
      due_joined before (send ∷ after) at,
      due_send send after at,
      ap (λ (n : ℕ). one_if (n == at)) same,
    )

-- where nobody was asked, as many as before are awaited
pub same_asking : (old new : List ℕ) → new ≡ old → IsAsking None old new
same_asking old new same = λ at. ap (λ xs. times_due xs at) same

pub asking_on : (asked : Option ℕ) (one two three : List ℕ) → IsAsking None one two
    → IsAsking asked two three → IsAsking asked one three
asking_on None one two three first second = λ at. second at ∙ first at
asking_on (Some server) one two three first second =
    λ at. second at ∙ ap (λ n. n + one_if (server == at)) (first at)

-- who asked a server awaits one
pub asked_some : (server : ℕ) (old new : List ℕ) → IsAsking (Some server) old new → new ≢ []
asked_some server old new asks none =
    let due : times_due new server ≡ 0 = ap (λ xs. times_due xs server) none in
    let one : one_if (server == server) ≡ 1 = (elim (eqb_tells server server) [
      | inl eq ↦ ap one_if eq.0
      | inr ne ↦ absurd (ne.1 refl)
    ]) in absurd (omega (arith, due, one, asks server))

-- a session awaits one server, and takes what came from it
pub one_taken : (server : ℕ) (asked : Option ℕ)
    → TakesAt server asked (awaited_one (Some server)) (awaited_one asked)
one_taken server None = λ at. omega (arith, due_first server [] at)
one_taken server (Some next) = λ at. omega (arith, due_first server [] at, due_first next [] at)

pub none_true : {A : Type 0} (xs : List A) (some : Bool) → IsTrue some ↔ (xs ≢ [])
    → OnFalse some (xs ≡ [])
none_true xs true is = tt
none_true [] false is = refl
none_true (x ∷ xs) false is =
    absurd (let never : false ≡ true = is.1 (λ none. let no : ⊥ = cc in no) in let no : ⊥ = cc in
    no)

pub some_true : {A : Type 0} (xs : List A) (some : Bool) → IsTrue some ↔ (xs ≢ [])
    → OnTrue some (xs ≢ [])
some_true xs true is = is.0 refl
some_true xs false is = tt
