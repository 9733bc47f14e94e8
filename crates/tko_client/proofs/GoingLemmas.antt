-- A client goes on, call after call, until it stands so that it cannot.
use Rattle.std.proofs.Common.{◌≡◌, ◌≢◌, ℕ, Bool, true, false, eqb, not, List, [], ◌∷◌, ◌++◌}
use Rattle.std.proofs.Common.{length, Option, None, refl, sym, ap, subst, ◌∙◌, arith}
use Rattle.std.proofs.lemmas.Bool.{eqb-true}
use Rattle.std.specs.Bool.{OnFalse, OnTrue}
use Rattle.std.specs.Prelude.{◌<◌, ◌≤◌, ◌+◌, ◌-◌, ◌/◌, IfSome, IsSome, sum_by}
use Rattle.std.proofs.lemmas.List.Sums.{sum_by-append, sum_by-cons}
use Rattle.tko_model.specs.Records.{Gains}
use Rattle.tko_model.proofs.RecordLemmas.{gains_none, gains_push}
use Rattle.tko_port.specs.Talks.{HasReplies}
use Rattle.tko_session.specs.Outgoing.{outgoing}
use Rattle.tko_pools.specs.Configs.{Configuration}
use Rattle.tko_reply.specs.Answering.{Extends}
use Rattle.tko_reply.specs.Ghosts.{PartsGhosts}
use Rattle.tko_reply.specs.declared.parts.Parts.{Parts}
use Rattle.tko_mux.specs.Awaits.{IsAsking}
use Rattle.tko_session.specs.Clients.{Open}
use Rattle.tko_text.specs.Reading.{Reading}
use Rattle.tko_client.specs.declared.calls.Went.{Went}
use Rattle.tko_client.specs.Answerings.{asked_by, awaited_by_client, client_at}
use Rattle.tko_client.specs.declared.client.ClientStanding.{ClientStanding}
use Rattle.tko_client.specs.Calls.{AnsweringOver, IsCalled, IsHaltLeft, IsHalted, IsLeftByCall}
use Rattle.tko_client.specs.Clients.{CourseReading, CourseStands}
use Rattle.tko_client.specs.Clients.{phase_at, stage_of}
use Rattle.tko_client.specs.Staying.{stayed_on}
use Rattle.tko_client.specs.Steps.{HasStayed, WentReading, WentStands, phase_of, server_asked_in}
use Rattle.tko_client.specs.declared.calls.Went.TheVariants as went
use Rattle.tko_client.specs.declared.client.ClientStanding.TheVariants as course
use Rattle.tko_client.specs.Shares.{BeginWithin, ClientCall, ClientOver, HasCalled, HasGone}
use Rattle.tko_client.specs.Shares.{IsCallWithCost, acted, call_cost, client_share, reply_unit}
use Rattle.tko_client.specs.Shares.{rested}
use Rattle.tko_client.proofs.AskLemmas.{asking_on}
use Rattle.tko_client.proofs.CalledLemmas.{with_cost}

-- where the first of the replies is there, they are
pub first_there : {all : List ℕ} (empty : Bool) (first : List ℕ) → (first ≡ [] → empty ≡ true)
    → Extends first all → OnTrue (not empty) (all ≢ [])
first_there true first none more = tt
first_there {all} false [] none more =
    let never : false ≡ true = none refl in absurd (let no : ⊥ = cc in no)
first_there {all} false (b ∷ first) none more = λ is.
    let same : b ∷ (first ++ more.more) ≡ [] = sym more.is ∙ is in
    let no : ⊥ = cc in no

-- where none is the first of the replies, there are none
pub none_there : {all : List ℕ} (empty : Bool) (first : List ℕ) → empty ≡ eqb (length first) 0
    → (first ≡ [] → all ≡ []) → OnFalse (not empty) (all ≡ [])
none_there false first is none = tt
none_there true [] is none = none refl
none_there true (b ∷ first) is none =
    let no : length (b ∷ first) ≡ 0 = eqb-true (length (b ∷ first)) 0 (sym is) in
    absurd (omega (arith, no))

-- what calls leave of the parts, health has the servers of the configuration still
pub servers_on : {H T C : Type 0} {servers : H → ℕ} {old new : Parts H (List ℕ) T C}
    → HasStayed servers old new
    → servers old.backend.health ≡ length old.config.addresses
    → servers new.backend.health ≡ length new.config.addresses
servers_on stays same = stays.health ∙ same
    ∙ ap (λ (c : Configuration). length c.addresses) (sym stays.config)

-- a call more begins while something is left
begins_on : (share : ℕ) (calls : List ClientCall) (call : ClientCall) → BeginWithin share calls
    → 0 < share - sum_by (λ (it : ClientCall). it.cost) calls
    → BeginWithin share (calls ++ call ∷ [])
begins_on share [] call begin some = (omega (arith, some), tt)
begins_on share (first ∷ calls) call begin some =
    let sum = sum_by-cons (λ (it : ClientCall). it.cost) first calls in
    (begin.0, begins_on (share - first.cost) calls call begin.1 (omega (arith, some, sum)))

module _ {H T C : Type 0} (ghosts : PartsGhosts H (List ℕ) T C) where
  -- calls, one after another, after which so much of the client's share is left
  pub record HasGoneWith (rest : ℕ) (old new : ClientOver H T C) : Type 0 where
    pub calls : List ClientCall
    pub gains : Gains (IsCallWithCost ghosts old.1.config) old calls new
    pub share : BeginWithin client_share calls
    pub left : rest ≤ client_share - sum_by (λ (it : ClientCall). it.cost) calls

  pub gone_of : {rest : ℕ} {old new : ClientOver H T C} → HasGoneWith rest old new
      → HasGone ghosts old new
  gone_of gone = record { calls = gone.calls; gains = gone.gains; share = gone.share }

  -- nothing was done
  pub none_gone : (at : ClientOver H T C) → HasGoneWith client_share at at
  none_gone at = record { calls = []; gains = gains_none at; share = tt; left = omega arith }

  -- a call more
  pub gone_more : (rest : ℕ) (old mid new : ClientOver H T C) → mid.1.config ≡ old.1.config
      → 0 < rest → HasGoneWith rest old mid → HasCalled ghosts mid new
      → HasGoneWith (rest - call_cost mid.0.session new.0.session) old new
  gone_more rest old mid new config some gone (rested same) = record {
    calls = gone.calls;
    gains = subst (λ n. Gains (IsCallWithCost ghosts old.1.config) old gone.calls n) (sym same)
        gone.gains;
    share = gone.share;
    left = omega (arith, gone.left);
  }
  gone_more rest old mid new config some gone (acted done act) =
      let cost = call_cost mid.0.session new.0.session in
      let call : ClientCall = record { done = done; cost = cost } in
      let sum = sum_by-append (λ (it : ClientCall). it.cost) gone.calls (call ∷ []) in record {
        calls = gone.calls ++ call ∷ [];
        gains = gains_push gone.gains (with_cost ghosts old.1.config config done act);
        share = begins_on client_share gone.calls call gone.share (omega (arith, some, gone.left));
        left = omega (arith, gone.left, sum);
      }

module _ {H T C : Type 0} (ghosts : PartsGhosts H (List ℕ) T C) (servers : H → ℕ) where
  -- what a call leaves, where its client stands so
  pub halt_left : (came : Went) (there : ClientStanding) (asked : Option ℕ)
      (old mid new : AnsweringOver H T C) → asked ≡ server_asked_in came
      → (there ≡ course.Short → asked ≡ None)
      → (WentStands came new.0 → CourseStands there new.0)
      → ((reading : Reading) → WentReading came reading → CourseReading there reading)
      → HasStayed servers old.1 mid.1
      → IsLeftByCall ghosts servers came mid new → IsHaltLeft ghosts servers there asked old new
  halt_left came there asked old mid new is short stands reads stays left = record {
    request = subst (λ a. IfSome a (λ server. IsSome (asked_by new.0))) (sym is) left.request;
    short = short;
    stands = stands left.stands;
    reading = reads new.0.session.reading left.reading;
    ready = left.ready;
    stays = stayed_on stays left.stays;
  }

  -- a client went on as long as it could
  pub halted_after : (came : Went) (there : ClientStanding) (asked : Option ℕ) (rest : ℕ)
      (old mid new : AnsweringOver H T C) → phase_at there ≡ phase_of came
      → asked ≡ server_asked_in came
      → (there ≡ course.Short → asked ≡ None) → (WentStands came new.0 → CourseStands there new.0)
      → ((reading : Reading) → WentReading came reading → CourseReading there reading)
      → HasReplies (stage_of there) (outgoing new.0.session)
      → 0 < rest
      → HasGoneWith ghosts rest (client_at Open old.0, old.1) (client_at Open mid.0, mid.1)
      → IsAsking None (awaited_by_client old.0) (awaited_by_client mid.0)
      → HasStayed servers old.1 mid.1
      → IsCalled ghosts servers came mid new → IsHalted ghosts servers there asked old new
  halted_after came there asked rest old mid new phase is short stands reads replies some gone
      none stays call =
      let first : ClientOver H T C = (client_at Open old.0, old.1) in
      let last : ClientOver H T C = (client_at (phase_of came) new.0, new.1) in
      let more = gone_more ghosts rest first (client_at Open mid.0, mid.1) last stays.config some
      gone call.gone in record {
        gone = subst (λ p. HasGone ghosts first (client_at p new.0, new.1)) (sym phase)
            (gone_of ghosts more);
        asks = subst (λ a. IsAsking a (awaited_by_client old.0) (awaited_by_client new.0)) (sym is)
            (asking_on (server_asked_in came) (awaited_by_client old.0) (awaited_by_client mid.0)
            (awaited_by_client new.0) none call.asks);
        replies = replies;
        left = halt_left came there asked old mid new is short stands reads stays call.left;
      }

  -- it went on once more, which cost so much
  pub called_on : (rest cost before after : ℕ) (old mid new : AnsweringOver H T C) → 0 < rest
      → before ≡ length mid.0.session.outbox → after ≡ length new.0.session.outbox
      → cost ≡ 1 + (after - before) / reply_unit
      → HasGoneWith ghosts rest (client_at Open old.0, old.1) (client_at Open mid.0, mid.1)
      → HasStayed servers old.1 mid.1 → IsCalled ghosts servers went.On mid new
      → HasGoneWith ghosts (rest - cost) (client_at Open old.0, old.1)
      (client_at Open new.0, new.1)
  called_on rest cost before after old mid new some is_before is_after is gone stays call =
      subst (λ n. HasGoneWith ghosts (rest - n) (client_at Open old.0, old.1)
      (client_at Open new.0, new.1))
      (sym (is ∙ ap (λ n. 1 + (n - before) / reply_unit) is_after
      ∙ ap (λ n. 1 + (length new.0.session.outbox - n) / reply_unit) is_before))
      (gone_more ghosts rest (client_at Open old.0, old.1) (client_at Open mid.0, mid.1)
      (client_at Open new.0, new.1) stays.config some gone call.gone)
