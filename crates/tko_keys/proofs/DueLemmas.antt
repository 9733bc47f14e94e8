-- The keys that are due: the first at a server, and those that go out with it.
use Rattle.std.proofs.Common.{◌≡◌, ◌==◌, ℕ, Bool, true, false, List, [], ◌∷◌, ◌++◌, map, Option}
use Rattle.std.proofs.Common.{Some, None, refl, sym, ap, subst, ◌∙◌, true≢false}
use Rattle.std.specs.Prelude.{IfSome, IsSome, position, remove, slice_index_or}
use Rattle.std.specs.Option.{option_map}
use Rattle.std.proofs.lemmas.Bool.{eq-eqb, eqb-true}
use Rattle.std.proofs.lemmas.Option.{slice_get-get_or}
use Rattle.tko_keys.specs.declared.plan.Grouping.{Grouping}
use Rattle.tko_keys.specs.declared.plan.Grouping.TheVariants.{ByKey, ByServer}
use Rattle.tko_keys.specs.KeyLines.{GoesWith, HasFilled, HasGathered, IsFirstDue, IsLineOf}
use Rattle.tko_keys.specs.KeyLines.{others_in}
use Rattle.tko_keys.specs.KeysDriven.{HasSent}
use Rattle.tko_keys.specs.KeysState.{DueKey, KeySend, KeySlot, KeysState, LineSoFar, first_due}
use Rattle.tko_keys.specs.Lines.{IsLineForKeys, IsLineFull, IsSentBy, Picks, key_at}
use Rattle.tko_keys.proofs.FirstLemmas.{first_taken, passing_found}
use Rattle.tko_keys.proofs.PicksLemmas.{cons_or_nil, picks_first, picks_none}

abbrev pub due_there : ℕ → DueKey → Bool
due_there server it = it.server == server

-- the first key that is due at a server, where it was taken from its place
pub taken_due : {server : ℕ} {due due' : List DueKey} {index : ℕ} {it : DueKey}
    → position (due_there server) due ≡ Some index → it ≡ slice_index_or due index it
    → due' ≡ remove due index → IsFirstDue server due it due'
taken_due {server} {due} {due'} {index} {it} found read left =
    let first = first_taken (due_there server) due it found read in
    record {
      before = first.0.before;
      after = first.0.after;
      are = first.0.are;
      others = left ∙ first.1;
      none = first.0.none;
      meets = eqb-true it.server server first.0.meets;
    }

key_or_server : ByKey ≡ ByServer → ⊥
key_or_server e = cc

-- one key goes out alone
pub goes_alone : {grouping : Grouping} {unique : Bool} {slots : List KeySlot} {server place : ℕ}
    {due : List DueKey} → grouping ≡ ByKey
    → GoesWith grouping unique slots server place None false due due
goes_alone {due = due} alone =
    record {
      picks = picks_none due;
      by = refl;
      full = λ whole together. absurd (key_or_server (sym alone ∙ together));
    }

sent_by : (unique : Bool) (slots : List KeySlot) (place : ℕ) (line : Option LineSoFar)
    → IsLineOf unique slots place line
    → IsSentBy ByServer unique slots (place ∷ others_in line) (option_map (λ it. it.request) line)
sent_by unique slots place None is = refl
sent_by unique slots place (Some line) is = (refl, cons_or_nil place line.others, is)

-- keys go out together
pub goes_together : {unique : Bool} {slots : List KeySlot} {server place : ℕ}
    {due stay : List DueKey} {short : Bool} {line : Option LineSoFar}
    → HasGathered unique slots server place line short due stay
    → GoesWith ByServer unique slots server place line short due stay
goes_together {unique} {slots} {place = place} {line = line} it =
    record {
      picks = it.picks;
      by = sent_by unique slots place line it.for_keys;
      full = λ whole together. it.full whole;
    }

-- no other key is due at the server
pub gathered_none : {unique : Bool} {slots : List KeySlot} {server place : ℕ} {due : List DueKey}
    → (IsSome (first_due server due) → ⊥)
    → HasGathered unique slots server place None false due due
gathered_none {unique} {slots} {server} {place} {due} none = record {
  picks = picks_none due;
  for_keys = tt;
  full = λ whole k d within meets. absurd
      (none (passing_found (due_there server) due k (slice_index_or due k d)
      (slice_get-get_or due k d within) (eq-eqb _ _ meets)));
}

-- memory ran out for a line
pub gathered_short : {unique : Bool} {slots : List KeySlot} {server place : ℕ} {due : List DueKey}
    → HasGathered unique slots server place None true due due
gathered_short {due = due} =
    record { picks = picks_none due; for_keys = tt; full = λ whole. absurd (true≢false whole) }

-- a line was filled
pub gathered_some : {unique : Bool} {slots : List KeySlot} {server place : ℕ}
    {due stay : List DueKey} {short : Bool} {old new : LineSoFar} {key : List ℕ}
    → key ≡ key_at slots place → old.others ≡ []
    → HasFilled unique slots server short (key ∷ []) due old stay new
    → HasGathered unique slots server place (Some new) short due stay
gathered_some {unique} {slots} {server} {place} {due} {stay} {short} {old} {new} {key} is none
    filled =
    let others : new.others ≡ filled.places = filled.others ∙ ap (λ xs. xs ++ filled.places) none in
    let keys : key ∷ map (key_at slots) filled.places ≡ key_at slots place ∷ map
    (key_at slots) new.others =
    ap (λ k. k ∷ map (key_at slots) filled.places) is
    ∙ ap (λ xs. key_at slots place ∷ map (key_at slots) xs) (sym others) in
    record {
      picks = subst (λ xs. Picks server due xs stay) (sym others) filled.picks;
      for_keys = subst (λ ks. IsLineForKeys unique ks new.request) keys filled.line.request;
      full = λ whole. subst (λ ks. IsLineFull slots server ks stay) keys (filled.full whole);
    }

-- a request was made
pub has_sent : {server : ℕ} {short : Bool} {state old : KeysState} {it : DueKey}
    {due stay : List DueKey} {line : Option LineSoFar} {sends' : List KeySend} → state ≡ old
    → IsFirstDue server state.due it due
    → GoesWith state.plan.grouping state.unique state.slots server it.place line short due stay
    → sends' ≡ state.sends ++
    (record {
      server = server;
      places = it.place ∷ others_in line;
      line = option_map (λ one. one.request) line;
    }) ∷ []
    → HasSent server short old (record state { due = stay; sends = sends' })
has_sent {server} {short} {state} {old} {it} {due} {stay} {line} {sends'} same first with_it sends =
    let sent : HasSent server short state (record state { due = stay; sends = sends' }) = record {
      send = record {
        server = server;
        places = it.place ∷ others_in line;
        line = option_map (λ one. one.request) line;
      };
      stay = stay;
      to = refl;
      picks =
          subst (λ ds. Picks server ds (it.place ∷ others_in line) stay) (sym first.are)
          (picks_first first.before first.after it (others_in line) stay first.none first.meets
          (subst (λ ds. Picks server ds (others_in line) stay) first.others with_it.picks));
      by = with_it.by;
      full = with_it.full;
      state = ap (λ xs. record state { due = stay; sends = xs }) sends;
    } in
    subst (λ (s : KeysState). HasSent server short s (record state { due = stay; sends = sends' }))
    same sent

-- the same where the place and the keys are read
pub has_sent_at : {server : ℕ} {short : Bool} {state old : KeysState} {it : DueKey}
    {due stay : List DueKey} {line : Option LineSoFar} {sends' : List KeySend}
    {slots : List KeySlot} {place : ℕ} → state ≡ old
    → IsFirstDue server state.due it due → it.place ≡ place → slots ≡ state.slots
    → GoesWith state.plan.grouping state.unique slots server place line short due stay
    → sends' ≡ state.sends ++
    (record {
      server = server;
      places = place ∷ others_in line;
      line = option_map (λ one. one.request) line;
    }) ∷ []
    → HasSent server short old (record state { due = stay; sends = sends' })
has_sent_at {server} {short} {state} {old} {it} {due} {stay} {line} {sends'} {slots} {place} same
    first at are with_it sends =
    has_sent same first
    (subst (λ n. GoesWith state.plan.grouping state.unique state.slots server n line short due stay)
    (sym at)
    (subst (λ ss. GoesWith state.plan.grouping state.unique ss server place line short due stay) are
    with_it))
    (sends ∙ ap (λ n. state.sends
    ++ (record {
      server = server;
      places = n ∷ others_in line;
      line = option_map (λ one. one.request) line;
    }) ∷ []) (sym at))

pub when_some : {A Q : Type 0} (o : Option A) → Q → IfSome o (λ x. Q)
when_some None is = tt
when_some (Some x) is = is
