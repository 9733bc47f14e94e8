-- Laws of rounds: what each visit is, and visits one after another.
use Rattle.std.proofs.Common.{◌≡◌, ◌↔◌, ℕ, zero, suc, ◌+◌, Bool, true, false, ◌||◌, List, [], ◌∷◌, ◌++◌, Option, Some, None, Ok, length, cond, inl, inr, refl, sym, ap, subst, ◌∙◌, add-one, zero-add, arith}
use Rattle.std.proofs.lemmas.List.{length-map, map-append, map-id}
use Rattle.std.proofs.lemmas.List.Folds.{list_any-append}
use Rattle.std.proofs.lemmas.List.FromFn.{map-range_with_len_more}
use Rattle.std.proofs.lemmas.List.Sums.{sum_by-cons}
use Rattle.tko_model.specs.Records.{Lead}
use Rattle.tko_model.proofs.RecordLemmas.{gains_none, gains_push}
use Rattle.tko_links.specs.declared.links.Outcome.TheVariants as outcome
use Rattle.tko_links.specs.Links.{WasProbed, is_counted, most_sends, part_of}
use Rattle.tko_pools.specs.Configs.{numbers_below}
use Rattle.tko_prober.specs.declared.prober.Prober.{Prober}
use Rattle.tko_prober.specs.Probes.{sent}
use Rattle.tko_prober.specs.declared.backend.Backend.{Backend}
use Rattle.tko_prober.specs.declared.probers.ProbeSlot.{ProbeSlot}
use Rattle.tko_prober.specs.declared.probers.ProbeSlot.TheVariants.{Probing}
use Rattle.tko_prober.specs.Ghosts.{BackendGhosts}
use Rattle.tko_prober.specs.Halves.{IsOut, IsPassed, IsProbeSent, IsResult}
use Rattle.tko_prober.specs.Probers.{AreQuiet, ProbersState, begun_at, begun_slot, probed_of, prober_of, slot_after, with_slot}
use Rattle.tko_prober.specs.Round.{Absent, AreVisited, IsBegun, IsRound, IsVisit, IsVisited, IsVisitedBy, Probed, Rested, Stopped, Visit, is_probe, is_short, probes_in, ran_out, visited}
use Rattle.tko_prober.specs.declared.rounds.ProbeEnd.{ProbeEnd}
use Rattle.tko_prober.proofs.HalfLemmas.{set_again}
use Rattle.tko_prober.proofs.ProberLemmas.{begun-quiet, prober-quiet, prober-set}

pub numbers_below-more : (count : ℕ) → numbers_below (count + 1) ≡ numbers_below count ++ count ∷ []
numbers_below-more count =
    sym (map-id (numbers_below (count + 1))) ∙ map-range_with_len_more (λ (n : ℕ). n) 0 count count (zero-add count)
    ∙ ap (λ xs. xs ++ count ∷ []) (map-id (numbers_below count))

pub or-false : (b : Bool) → (b || false) ≡ b
or-false true = refl
or-false false = refl

module _ {H L C : Type 0} {ghosts : BackendGhosts H L C} where
  -- no probe was sent
  pub visited_passed : (moment : ℕ) (old : Backend H L C) (server : ℕ) (new : Backend H L C)
      → IsPassed ghosts.steps ghosts.grants moment old server new
      → IsVisitedBy ghosts moment old server None new
  visited_passed moment old server new (inl (none, same)) =
      record { visit = Absent server; at = refl; is = (none, same); probed = refl }
  visited_passed moment old server new (inr (inl stopped)) =
      record { visit = Stopped server; at = refl; is = stopped; probed = refl }
  visited_passed moment old server new (inr (inr rested)) =
      record { visit = Rested server; at = refl; is = rested; probed = refl }

  -- a probe was sent, and its result was taken once the links had it
  pub visited_sent : (moment : ℕ) (old mid : Backend H L C) (server : ℕ) (probe : ProbeEnd) (later : ℕ)
      (links : L) (clock : C) (new : Backend H L C)
      → IsProbeSent ghosts.grants moment old server mid
      → WasProbed ghosts.exchanges mid.links server probe.came links
      → ((probe.came ≡ Ok outcome.Spent) ↔ (ghosts.probed mid.links server ≡ most_sends))
      → ((at : ℕ) → ghosts.probed links at ≡ ghosts.probed mid.links at + part_of (is_counted probe.came) server at)
      → ghosts.reads mid.clock later clock
      → ((prober : Prober) → IsOut mid.probers server prober
      → IsResult ghosts.steps later (record mid { links = links; clock = clock }) server prober (probed_of probe.came) probe.reply new)
      → probe.server ≡ server → probe.probes ≡ ghosts.probed new.links server
      → IsVisitedBy ghosts moment old server (Some probe) new
  visited_sent moment old mid server probe later links clock new is sent_it spent counted read result named probes =
      let came = probe.came in
      let reply = probe.reply in
      let out : Prober = sent is.prober in
      let slot : ProbeSlot = slot_after out later (probed_of came) in
      let probers : mid.probers ≡ with_slot old.probers server (Probing out) =
      ap (λ (b : Backend H L C). b.probers) is.others in
      let has : prober_of mid.probers server ≡ Some out =
      ap (λ (p : ProbersState). prober_of p server) probers ∙ prober-set old.probers.slots server is.prober out is.has in
      let taken = result out (record { has = has; out = refl }) in
      let is_links : mid.links ≡ old.links = ap (λ (b : Backend H L C). b.links) is.others in
      let is_clock : mid.clock ≡ old.clock = ap (λ (b : Backend H L C). b.clock) is.others in
      let is_health : mid.health ≡ old.health = ap (λ (b : Backend H L C). b.health) is.others in
      let slots : with_slot mid.probers server slot ≡ with_slot old.probers server slot =
      ap (λ (p : ProbersState). with_slot p server slot) probers ∙ set_again old.probers server (Probing out) slot in
      let to : Backend H L C =
      record { health = new.health; links = links; probers = with_slot old.probers server slot; clock = clock } in
      let is_new : new ≡ to =
      taken.others
      ∙ ap (λ (p : ProbersState). record { health = new.health; links = links; probers = p; clock = clock }) slots in
      let same_links : new.links ≡ links = ap (λ (b : Backend H L C). b.links) is_new in
      subst (λ (b : Backend H L C). IsVisitedBy ghosts moment old server (Some probe) b) (sym is_new)
      (record {
        visit = Probed server came later reply;
        at = refl;
        is = record {
          prober = is.prober;
          has = is.has;
          due = is.due;
          right = is.right;
          probe = rw is_links at sent_it;
          spent = rw is_links at spent;
          counted = rw is_links at counted;
          read = rw is_clock at read;
          recorded = rw is_health at taken.recorded;
          others = refl;
        };
        probed = (later, refl, named, probes ∙ ap (λ l. ghosts.probed l server) same_links);
      })

  -- memory ran out in a visit exactly if it did in its probe
  pub visited_by : {moment : ℕ} {old new : Backend H L C} {server : ℕ} (probe : Option ProbeEnd)
      → IsVisitedBy ghosts moment old server probe new
      → IsVisited ghosts moment old server (is_short probe) new
  visited_by None by = record { visit = by.visit; at = by.at; is = by.is; memory = sym by.probed }
  visited_by (Some probe) by = record {
    visit = by.visit;
    at = by.at;
    is = by.is;
    memory = sym (ap ran_out by.probed.1);
  }

  pub visited_none : (moment : ℕ) (at : Backend H L C) → AreVisited ghosts moment at 0 false at
  visited_none moment at = record { visits = []; each = gains_none at; servers = refl; memory = refl }

  pub visited_more : {moment : ℕ} {old mid new : Backend H L C} {count : ℕ} {short next : Bool}
      → AreVisited ghosts moment old count short mid
      → IsVisited ghosts moment mid count next new
      → AreVisited ghosts moment old (count + 1) (short || next) new
  visited_more {count} front last = record {
    visits = front.visits ++ last.visit ∷ [];
    each = gains_push front.each last.is;
    servers =
        map-append visited front.visits (last.visit ∷ []) ∙ rw (front.servers, last.at, numbers_below-more count) refl;
    memory =
        rw (list_any-append ran_out front.visits (last.visit ∷ []), front.memory, last.memory, or-false (ran_out last.visit))
        refl;
  }

module _ {H L C : Type 0} (ghosts : BackendGhosts H L C) where
  -- what a visit adds to the probes of a server
  visit_probes : (moment : ℕ) (old new : Backend H L C) (visit : Visit)
      → IsVisit ghosts moment old visit new → (server : ℕ)
      → ghosts.probed new.links server ≡ ghosts.probed old.links server + cond (is_probe server visit) 1 0
  visit_probes moment old new (Absent at) (none, same) server =
      omega (arith, ap (λ (p : Backend H L C). ghosts.probed p.links server) same)
  visit_probes moment old new (Stopped at) is server =
      omega (arith, ap (λ (p : Backend H L C). ghosts.probed p.links server) is.others)
  visit_probes moment old new (Rested at) is server =
      omega (arith, ap (λ (p : Backend H L C). ghosts.probed p.links server) is.same)
  visit_probes moment old new (Probed at came later reply) is server = is.counted server

  -- the probes of a server are those of the visits
  probes_gained : (moment : ℕ) (old new : Backend H L C) (visits : List Visit)
      → Lead (IsVisit ghosts moment) old visits new → (server : ℕ)
      → ghosts.probed new.links server ≡ ghosts.probed old.links server + probes_in server visits
  probes_gained moment old new [] same server = omega (arith, ap (λ (p : Backend H L C). ghosts.probed p.links server) same)
  probes_gained moment old new (visit ∷ visits) (mid, step, rest) server =
      omega (
        arith,
        visit_probes moment old mid visit step server,
        probes_gained moment mid new visits rest server,
        sum_by-cons (λ (x : Visit). cond {A = ℕ} (is_probe server x) 1 0) visit visits,
      )

module _ {H L C : Type 0} {ghosts : BackendGhosts H L C} where
  -- a moment was read, the probers began, and all servers were visited
  pub round_of : (moment : ℕ) (old : Backend H L C) (clock : C) (short : Bool) (new : Backend H L C)
      → ghosts.reads old.clock moment clock
      → AreVisited ghosts moment
      (record old { clock = clock; probers = begun_at moment old.probers }) (length old.probers.slots) short new
      → IsRound ghosts old short new
  round_of moment old clock short new read all = record {
    moment = moment;
    clock = clock;
    read = read;
    visits = all.visits;
    each = all.each;
    servers = all.servers;
    probes = probes_gained ghosts moment _ new all.visits all.each.leads;
    memory = all.memory;
  }

  -- a round began at this moment, and then all servers were visited
  pub round_visited : {moment : ℕ} {old mid : Backend H L C} {short : Bool} {new : Backend H L C}
      → IsBegun ghosts old moment mid → AreVisited ghosts moment mid (length mid.probers.slots) short new
      → IsRound ghosts old short new
  round_visited {moment} {old} {mid} {short} {new} begun all =
      let began : mid.probers ≡ begun_at moment old.probers = ap (λ (b : Backend H L C). b.probers) begun.others in
      let len : length mid.probers.slots ≡ length old.probers.slots =
      ap (λ (p : ProbersState). length p.slots) began
      ∙ length-map old.probers.slots (begun_slot old.probers.delays moment) in
      round_of moment old mid.clock short new begun.read
      (subst (λ n. AreVisited ghosts moment
      (record old { clock = mid.clock; probers = begun_at moment old.probers }) n short new) len
      (subst (λ (b : Backend H L C). AreVisited ghosts moment b (length mid.probers.slots) short new) begun.others all))

  visited_quiet : (moment : ℕ) (at : Backend H L C) → AreQuiet at.probers → (count : ℕ)
      → AreVisited ghosts moment at count false at
  visited_quiet moment at quiet zero = visited_none moment at
  visited_quiet moment at quiet (suc count) =
      let none = prober-quiet at.probers.slots count quiet in
      let last : IsVisited ghosts moment at count false at =
      record { visit = Absent count; at = refl; is = (none, refl); memory = refl } in
      let all = visited_more (visited_quiet moment at quiet count) last in
      subst (λ n. AreVisited ghosts moment at n false at) (add-one count) all

  -- where no server is probed or going to be, a round reads its moment and changes nothing else
  pub round_quiet : (moment : ℕ) (old : Backend H L C) (clock : C) → ghosts.reads old.clock moment clock → AreQuiet old.probers
      → IsRound ghosts old false (record old { clock = clock })
  round_quiet moment old clock read quiet =
      let at = record old { clock = clock; probers = begun_at moment old.probers } in
      let same : begun_at moment old.probers ≡ old.probers =
      ap (λ (slots : List ProbeSlot). record old.probers { slots = slots })
      (begun-quiet old.probers.delays moment old.probers.slots quiet) in
      let all = visited_quiet moment (record old { clock = clock }) quiet (length old.probers.slots) in
      round_of moment old clock false (record old { clock = clock }) read
      (subst (λ (p : ProbersState). AreVisited ghosts moment (record old { clock = clock; probers = p })
      (length old.probers.slots) false (record old { clock = clock })) (sym same) all)
