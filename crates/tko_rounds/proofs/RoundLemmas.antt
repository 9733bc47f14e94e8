-- Laws of rounds: visits one after another, and what they add to the counts.
use Rattle.std.proofs.Common.{◌≡◌, ℕ, zero, suc, ◌+◌, ◌≤◌, Bool, false, ◌||◌, List, [], ◌∷◌, ◌++◌, Option, Some, None, length, cond, inl, refl, sym, ap, subst, ◌∙◌, add-one, arith}
use Rattle.std.proofs.lemmas.List.{map-append}
use Rattle.std.proofs.lemmas.List.Folds.{list_any-append}
use Rattle.std.proofs.lemmas.List.Sums.{sum_by-cons}
use Rattle.tko_model.specs.Records.{Lead}
use Rattle.tko_model.proofs.RecordLemmas.{gains_none, gains_push}
use Rattle.tko_health.specs.declared.health.Health.{Ghosts as HealthGhosts}
use Rattle.tko_mux.specs.Lines.{LineState}
use Rattle.tko_prober.specs.declared.backend.Backend.{Backend}
use Rattle.tko_prober.specs.declared.probers.ProbeSlot.{ProbeSlot}
use Rattle.tko_prober.specs.Probers.{ProbersState, begun_at}
use Rattle.tko_prober.proofs.ProberLemmas.{begun-quiet, prober-quiet}
use Rattle.tko_prober.proofs.RoundLemmas.{numbers_below-more, or-false}
use Rattle.tko_rounds.specs.Probes.{count_of}
use Rattle.tko_rounds.specs.Rounds.{AreEventVisited, HasNext, HasProbeTaken, HasNoProbes, IsProbeNext, IsEventRound, IsEventVisit, IsEventVisited, Lost, ProbeNext, NothingCame, Passed, Pushed, RoundState, ProbeTaking, TakesProbe, Underway, EventVisit, awaited, begun_round, probes_ended_in, event_ran_out, round_servers, took, unsent, event_visited}
use Rattle.tko_rounds.proofs.ProbeLemmas.{each_unset}

module _ {H L C : Type 0} {health : HealthGhosts H} where
  -- what came of the probe of a server was taken, and then the next one was sent
  pub visited_both : {moment due : ℕ} {old mid new : RoundState H L C} {server : ℕ} {short : Bool}
      → HasProbeTaken health moment old server mid → HasNext health moment due mid server short new
      → IsEventVisited health moment due old server short new
  visited_both {mid} {server} taken then = record {
    visit = record { server = server; taken = taken.it; next = then.it };
    at = refl;
    is = record { mid = mid; takes = taken.takes; sends = then.sends };
    memory = then.memory;
  }

  pub visited_none : (moment due : ℕ) (at : RoundState H L C) → AreEventVisited health moment due at 0 false at
  visited_none moment due at = record { visits = []; each = gains_none at; servers = refl; memory = refl }

  pub visited_more : {moment due : ℕ} {old mid new : RoundState H L C} {count : ℕ} {short next : Bool}
      → AreEventVisited health moment due old count short mid → IsEventVisited health moment due mid count next new
      → AreEventVisited health moment due old (count + 1) (short || next) new
  visited_more {count} front last = record {
    visits = front.visits ++ last.visit ∷ [];
    each = gains_push front.each last.is;
    servers =
        map-append event_visited front.visits (last.visit ∷ []) ∙ rw (front.servers, last.at, numbers_below-more count) refl;
    memory =
        rw (list_any-append event_ran_out front.visits (last.visit ∷ []), front.memory, last.memory, or-false (event_ran_out last.visit))
        refl;
  }

module _ {H L C : Type 0} (health : HealthGhosts H) where
  -- what the result of a probe adds to the count of a server
  nothing_counts : (old : RoundState H L C) (server : ℕ) (new : RoundState H L C) → NothingCame old server new
      → (at : ℕ) → count_of new.probes at ≡ count_of old.probes at
  nothing_counts old server new (unsent none same) at = ap (λ (s : RoundState H L C). count_of s.probes at) same
  nothing_counts old server new (awaited out is) at = ap (λ (s : RoundState H L C). count_of s.probes at) is.others

  takes_counts : (moment : ℕ) (old : RoundState H L C) (server : ℕ) (it : Option ProbeTaking) (new : RoundState H L C)
      → TakesProbe health moment old server it new → (at : ℕ)
      → count_of new.probes at ≡ count_of old.probes at + cond (took at server it) 1 0
  takes_counts moment old server None new is at = omega (arith, nothing_counts old server new is at)
  takes_counts moment old server (Some it) new (out, is) at = is.counted at

  -- a probe that is sent is not counted yet
  sends_counts : (moment due : ℕ) (old : RoundState H L C) (server : ℕ) (next : ProbeNext) (new : RoundState H L C)
      → IsProbeNext health moment due old server next new → (at : ℕ) → count_of new.probes at ≡ count_of old.probes at
  sends_counts moment due old server Underway new (out, same) at = ap (λ (s : RoundState H L C). count_of s.probes at) same
  sends_counts moment due old server Passed new (free, passed, same) at = ap (λ (s : RoundState H L C). count_of s.probes at) same
  sends_counts moment due old server Pushed new is at = ap (λ (s : RoundState H L C). count_of s.probes at) is.others
  sends_counts moment due old server Lost new is at = ap (λ (s : RoundState H L C). count_of s.probes at) is.others

  -- the counts rise by the probes that ended in the visits
  counts_gained : (moment due : ℕ) (old new : RoundState H L C) (visits : List EventVisit)
      → Lead (IsEventVisit health moment due) old visits new → (at : ℕ)
      → count_of new.probes at ≡ count_of old.probes at + probes_ended_in at visits
  counts_gained moment due old new [] same at = omega (arith, ap (λ (s : RoundState H L C). count_of s.probes at) same)
  counts_gained moment due old new (visit ∷ visits) (mid, step, rest) at =
      omega (
        arith,
        takes_counts moment old visit.server visit.taken step.mid step.takes at,
        sends_counts moment due step.mid visit.server visit.next mid step.sends at,
        counts_gained moment due mid new visits rest at,
        sum_by-cons (λ (x : EventVisit). cond {A = ℕ} (took at x.server x.taken) 1 0) visit visits,
      )

  -- the probers began, and all servers were visited
  pub round_of : (moment due : ℕ) (old : RoundState H L C) (short : Bool) (new : RoundState H L C)
      → AreEventVisited health moment due (begun_round moment old) (round_servers health old) short new
      → IsEventRound health moment due old short new
  round_of moment due old short new all = record {
    visits = all.visits;
    each = all.each;
    servers = all.servers;
    counts = counts_gained moment due (begun_round moment old) new all.visits all.each.leads;
    memory = all.memory;
  }

  pub round_begun : (moment due : ℕ) (old : RoundState H L C) (limit : ℕ) (backend : Backend H L C) (lines : List LineState)
      (short : Bool) (new : RoundState H L C) → limit ≡ old.limit → lines ≡ old.lines
      → backend ≡ record old.backend { probers = begun_at moment old.backend.probers }
      → AreEventVisited health moment due (record old { limit = limit; backend = backend; lines = lines })
      (round_servers health (record old { limit = limit; backend = backend; lines = lines })) short new
      → IsEventRound health moment due old short new
  round_begun moment due old limit backend lines short new is_limit is_lines is_backend all =
      let is : record old { limit = limit; backend = backend; lines = lines } ≡ begun_round moment old =
      rw (is_limit, is_lines, is_backend) refl in
      round_of moment due old short new
      (subst (λ (s : RoundState H L C). AreEventVisited health moment due s (round_servers health s) short new) is all)

  -- where no prober is at work and no probe is out, nothing is done at any server
  visited_idle : (moment due : ℕ) (at : RoundState H L C) → HasNoProbes at.backend.probers at.probes → (count : ℕ)
      → count ≤ length at.probes.out → AreEventVisited health moment due at count false at
  visited_idle moment due at idle zero within = visited_none moment due at
  visited_idle moment due at idle (suc count) within =
      let below : count ≤ length at.probes.out = omega (arith, within) in
      let free = each_unset at.probes.out count idle.none (omega (arith, within)) in
      let passed = inl (prober-quiet at.backend.probers.slots count idle.quiet, refl) in
      let last : IsEventVisited health moment due at count false at =
      record {
        visit = record { server = count; taken = None; next = Passed };
        at = refl;
        is = record { mid = at; takes = unsent free refl; sends = (free, passed, refl) };
        memory = refl;
      } in
      let all = visited_more (visited_idle moment due at idle count below) last in
      subst (λ n. AreEventVisited health moment due at n false at) (add-one count) all

  pub round_idle : (moment due : ℕ) (old : RoundState H L C) → HasNoProbes old.backend.probers old.probes
      → IsEventRound health moment due old false old
  round_idle moment due old idle =
      let slots : begun_at moment old.backend.probers ≡ old.backend.probers =
      ap (λ (slots : List ProbeSlot). record old.backend.probers { slots = slots })
      (begun-quiet old.backend.probers.delays moment old.backend.probers.slots idle.quiet) in
      let same : begun_round moment old ≡ old =
      ap (λ (p : ProbersState). record old { backend = record old.backend { probers = p } }) slots in
      let within : round_servers health old ≤ length old.probes.out = omega arith in
      round_of moment due old false old
      (subst (λ s. AreEventVisited health moment due s (round_servers health old) false old) (sym same)
      (visited_idle moment due old idle (round_servers health old) within))
