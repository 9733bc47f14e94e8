-- Who waits for whom, as requests come to wait and leave.
use Rattle.std.proofs.Common.{arith, ◌≡◌, ◌≢◌, ℕ, ◌+◌, ◌<◌, List, [], ◌∷◌, ◌++◌, Bool, true, false, refl, sym, ap, subst, ◌∙◌, inl, inr, Option, Some, None}
use Rattle.std.specs.Prelude.{◌==◌}
use Rattle.std.proofs.lemmas.Bool.{cases_eq, eq-eqb}
use Rattle.std.proofs.lemmas.Bool.Decides.{eqb_tells}
use Rattle.std.proofs.lemmas.List.Sums.{sum_by-append, sum_by-cons}
use Rattle.tko_pipe.specs.declared.waiter.Asker.{Asker}
use Rattle.tko_pipe.specs.declared.waiter.Asker.TheVariants.{Client, GaveUp, Probe}
use Rattle.tko_pipe.specs.declared.waiter.Waiter.{Waiter}
use Rattle.tko_mux.specs.declared.asking.Came.{Came}
use Rattle.tko_mux.specs.Awaits.{IsAsking, IsTaking, one_if, times_due}
use Rattle.tko_mux.specs.Linking.{IsAsker, IsLoose, Linked, count_if, one_for, times_in}

pub one_same : (it : ℕ) → one_if (it == it) ≡ 1
one_same it = ap one_if (eq-eqb it it refl)

count_none : (test : Bool) → count_if test 0 ≡ 0
count_none true = refl
count_none false = refl

count_one : (test : Bool) → count_if test 1 ≡ one_if test
count_one true = refl
count_one false = refl

-- one more at the front, or at the end
pub times_first : (number : ℕ) (it : Waiter) (rest : List Waiter)
    → times_in number (it ∷ rest) ≡ one_for number it.by + times_in number rest
times_first number it rest = sum_by-cons (λ (one : Waiter). one_for number one.by) it rest

times_last : (number : ℕ) (rest : List Waiter) (it : Waiter)
    → times_in number (rest ++ it ∷ []) ≡ times_in number rest + one_for number it.by
times_last number rest it =
    let f : Waiter → ℕ = λ one. one_for number one.by in
    let both : times_in number (rest ++ it ∷ []) ≡ times_in number rest + times_in number
    (it ∷ []) =
    sum_by-append f rest (it ∷ []) in
    let first : times_in number (it ∷ []) ≡ one_for number it.by + 0 = sum_by-cons f it [] in
    omega (arith, both, first)

-- the one queues are the others without one that waits for this server
pub record IsWithout (server : ℕ) (by : Asker) (all less : ℕ → List Waiter) : Type 0 where
  pub counts : (at other : ℕ)
      → times_in other (less at) + count_if (server == at) (one_for other by)
      ≡ times_in other (all at)

-- where one more is in the queue of this server, and the other queues are the same
pub without : (all less : ℕ → List Waiter) (server : ℕ) (by : Asker)
    → ((other : ℕ) → times_in other (less server) + one_for other by ≡ times_in other (all server))
    → ((other : ℕ) → other ≢ server → less other ≡ all other) → IsWithout server by all less
without all less server by mine others = record {
  counts = λ at other. elim (eqb_tells server at) [
    | inl here ↦
        let one : count_if (server == at) (one_for other by) ≡ one_for other by =
        ap (λ test. count_if test (one_for other by)) here.0 in
        let counts : times_in other (less at) + one_for other by ≡ times_in other (all at) =
        subst (λ s. times_in other (less s) + one_for other by ≡ times_in other (all s)) here.1
        (mine other) in
        omega (arith, one, counts)
    | inr apart ↦
        let none : count_if (server == at) (one_for other by) ≡ 0 =
        ap (λ test. count_if test (one_for other by)) apart.0 in
        let same : times_in other (less at) ≡ times_in other (all at) =
        ap (times_in other) (others at (λ e. apart.1 (sym e))) in
        omega (arith, none, same)
  ];
}

pub first_without : (all less : ℕ → List Waiter) (server : ℕ) (it : Waiter)
    → all server ≡ it ∷ less server → ((other : ℕ) → other ≢ server → less other ≡ all other)
    → IsWithout server it.by all less
first_without all less server it is others =
    without all less server it.by
    (λ other.
    let first : times_in other (all server)
    ≡ one_for other it.by + times_in other (less server) =
    ap (times_in other) is ∙ times_first other it (less server) in omega (arith, first)) others

pub last_without : (less all : ℕ → List Waiter) (server : ℕ) (it : Waiter)
    → all server ≡ less server ++ it ∷ []
    → ((other : ℕ) → other ≢ server → all other ≡ less other) → IsWithout server it.by all less
last_without less all server it is others =
    without all less server it.by
    (λ other. sym (ap (times_in other) is ∙ times_last other (less server) it))
    (λ other apart. sym (others other apart))

-- the first of a queue awaits its server
pub first_awaits : (aw : ℕ → List ℕ) (queue : ℕ → List Waiter) (server number : ℕ) (it : Waiter)
    (rest : List Waiter) → Linked aw queue → queue server ≡ it ∷ rest → it.by ≡ Client number
    → 0 < times_due (aw number) server
first_awaits aw queue server number it rest linked is by =
    let due = linked server number in
    let here : times_in number (queue server) ≡ one_for number it.by + times_in number rest =
    ap (times_in number) is ∙ times_first number it rest in
    let one : one_for number it.by ≡ 1 = ap (one_for number) by ∙ one_same number in
    omega (arith, due, here, one)

-- once the first was taken out, its request is in no queue
pub first_loose : (aw : ℕ → List ℕ) (old new : ℕ → List Waiter) (server number : ℕ)
    → Linked aw old → IsWithout server (Client number) old new → IsLoose aw new number server
first_loose aw old new server number linked one = record {
  counts = λ at other. one.counts at other ∙ linked at other;
}

-- once a probe was taken out, all wait as before
pub probe_taken : (aw : ℕ → List ℕ) (old new : ℕ → List Waiter) (server : ℕ) → Linked aw old
    → IsWithout server Probe old new → Linked aw new
probe_taken aw old new server linked one = λ at number.
    let due : times_in number (old at) ≡ times_due (aw number) at = linked at number in
    omega (arith, due, one.counts at number, count_none (server == at))

-- and so where one that had given up was
pub gone_taken : (aw : ℕ → List ℕ) (old new : ℕ → List Waiter) (server number : ℕ) → Linked aw old
    → IsWithout server (GaveUp number) old new → Linked aw new
gone_taken aw old new server number linked one = λ at other.
    let due : times_in other (old at) ≡ times_due (aw other) at = linked at other in
    omega (arith, due, one.counts at other, count_none (server == at))

-- and where a probe was added
pub probe_linked : (aw : ℕ → List ℕ) (old new : ℕ → List Waiter) (server : ℕ) → Linked aw old
    → IsWithout server Probe new old → Linked aw new
probe_linked aw old new server linked one = λ at number.
    let due : times_in number (old at) ≡ times_due (aw number) at = linked at number in
    omega (arith, due, one.counts at number, count_none (server == at))

-- a request that was in no queue stands at the end of that of its server
pub last_linked : (aw : ℕ → List ℕ) (old new : ℕ → List Waiter) (server number : ℕ)
    → IsLoose aw old number server → IsWithout server (Client number) new old → Linked aw new
last_linked aw old new server number loose one =
    λ at other. sym (one.counts at other) ∙ loose.counts at other

-- what is in no queue of the client, and of the others
mine_of : (aw : ℕ → List ℕ) (queue : ℕ → List Waiter) (number server : ℕ)
    → IsLoose aw queue number server → (at : ℕ)
    → times_in number (queue at) + one_if (server == at) ≡ times_due (aw number) at
mine_of aw queue number server loose at =
    let one : count_if (server == at) (one_if (number == number)) ≡ one_if (server == at) =
    ap (count_if (server == at)) (one_same number) ∙ count_one (server == at) in
    let counts = loose.counts at number in
    omega (arith, one, counts)

no_other : (number other : ℕ) (test : Bool) → other ≢ number
    → count_if test (one_if (number == other)) ≡ 0
no_other number other test apart =
    elim (eqb_tells number other) [
      | inl same ↦ absurd (apart (sym same.1))
      | inr ne ↦ ap (λ it. count_if test (one_if it)) ne.0 ∙ count_none test
    ]

others_of : (aw : ℕ → List ℕ) (queue : ℕ → List Waiter) (number server : ℕ)
    → IsLoose aw queue number server → (at other : ℕ) → other ≢ number
    → times_in other (queue at) ≡ times_due (aw other) at
others_of aw queue number server loose at other apart =
    let counts = loose.counts at other in
    omega (arith, counts, no_other number other (server == at) apart)

loose_from : (aw : ℕ → List ℕ) (queue : ℕ → List Waiter) (number server : ℕ)
    → ((at : ℕ) → times_in number (queue at) + one_if (server == at) ≡ times_due (aw number) at)
    → ((at other : ℕ) → other ≢ number → times_in other (queue at) ≡ times_due (aw other) at)
    → IsLoose aw queue number server
loose_from aw queue number server mine others = record {
  counts = λ at other. elim (cases_eq other number) [
    | inl me ↦
        let one : count_if (server == at) (one_if (number == other)) ≡ one_if (server == at) =
        ap (λ n. count_if (server == at) (one_if (number == n))) me
        ∙ ap (count_if (server == at)) (one_same number) ∙ count_one (server == at) in
        let counts : times_in other (queue at) + one_if (server == at) ≡ times_due (aw other) at =
        subst (λ n. times_in n (queue at) + one_if (server == at) ≡ times_due (aw n) at) (sym me)
        (mine at) in
        omega (arith, one, counts)
    | inr apart ↦
        let counts = others at other apart in
        omega (arith, counts, no_other number other (server == at) apart)
  ];
}

linked_from : (aw : ℕ → List ℕ) (queue : ℕ → List Waiter) (number : ℕ)
    → ((at : ℕ) → times_in number (queue at) ≡ times_due (aw number) at)
    → ((at other : ℕ) → other ≢ number → times_in other (queue at) ≡ times_due (aw other) at)
    → Linked aw queue
linked_from aw queue number mine others = λ at other. elim (cases_eq other number) [
  | inl me ↦ subst (λ n. times_in n (queue at) ≡ times_due (aw n) at) (sym me) (mine at)
  | inr apart ↦ others at other apart
]

-- one whose request is in no queue awaits its server
pub loose_awaits : (aw : ℕ → List ℕ) (queue : ℕ → List Waiter) (number server : ℕ)
    → IsLoose aw queue number server → 0 < times_due (aw number) server
loose_awaits aw queue number server loose =
    let mine = mine_of aw queue number server loose server in
    omega (arith, mine, one_same server)

-- after an input, the request that the client asks to send is in no queue
pub asked_linked : (old new : ℕ → List ℕ) (queue : ℕ → List Waiter) (number : ℕ)
    (asked : Option ℕ) → Linked old queue → IsAsking asked (old number) (new number)
    → ((other : ℕ) → other ≢ number → new other ≡ old other) → IsAsker new queue number asked
asked_linked old new queue number None linked asking others =
    linked_from new queue number (λ at. linked at number ∙ sym (asking at))
    (λ at other ne. linked at other ∙ ap (λ a. times_due a at) (sym (others other ne)))
asked_linked old new queue number (Some server) linked asking others =
    loose_from new queue number server
    (λ at. let due = linked at number in omega (arith, due, asking at))
    (λ at other ne. linked at other ∙ ap (λ a. times_due a at) (sym (others other ne)))

-- after what came of a request that was in no queue, the one that the client asks to send is
pub taken_linked : (old new : ℕ → List ℕ) (queue : ℕ → List Waiter) (number server : ℕ)
    (came : Came) (asked : Option ℕ) → IsLoose old queue number server
    → IsTaking server came asked (old number) (new number)
    → ((other : ℕ) → other ≢ number → new other ≡ old other) → IsAsker new queue number asked
taken_linked old new queue number server came None loose taking others =
    linked_from new queue number
    (λ at. let mine = mine_of old queue number server loose at in
    omega (arith, mine, taking.awaits at))
    (λ at other ne. others_of old queue number server loose at other ne
    ∙ ap (λ a. times_due a at) (sym (others other ne)))
taken_linked old new queue number server came (Some next) loose taking others =
    loose_from new queue number next
    (λ at. let mine = mine_of old queue number server loose at in
    omega (arith, mine, taking.awaits at))
    (λ at other ne. others_of old queue number server loose at other ne
    ∙ ap (λ a. times_due a at) (sym (others other ne)))

-- nothing changed
pub same_linked : (was now : ℕ → List ℕ) (old new : ℕ → List Waiter) → Linked was old
    → ((number : ℕ) → now number ≡ was number) → ((server : ℕ) → new server ≡ old server)
    → Linked now new
same_linked was now old new linked same_awaited same_queue server number =
    ap (times_in number) (same_queue server) ∙ linked server number
    ∙ ap (λ a. times_due a server) (sym (same_awaited number))
