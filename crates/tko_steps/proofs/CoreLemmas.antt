-- The groups of the core, and what holds of the core is kept by one step.
use Rattle.std.proofs.Common.{◌≡◌, ℕ, ◌+◌, ◌<◌, ◌≤◌, List, length, get_or, set, All, Some, count_by, sym, ap, ◌∙◌, ⊎_elim, arith, length-set, get_or-set_same, get_or-set_other}
use Rattle.std.proofs.lemmas.Bool.{cases_eq}
use Rattle.std.proofs.lemmas.List.Elements.{All-from_get_or, All-set}
use Rattle.std.proofs.lemmas.List.Sums.{sum_by-le-sum_by}
use Rattle.tko_model.specs.declared.mark.Mark.{Mark}
use Rattle.tko_model.specs.declared.mark.Reply.{Reply}
use Rattle.tko_model.specs.declared.state.ServerState.{ServerState}
use Rattle.tko_model.specs.Groups.{group_of, limit_of}
use Rattle.tko_model.specs.Tracker.{IsFit, is_soft, server_at}
use Rattle.tko_model.proofs.GroupLemmas.{group_of-lt, softs_in-set}
use Rattle.tko_steps.specs.declared.phase.Call.{Call}
use Rattle.tko_steps.specs.declared.phase.Phase.TheVariants.{Loosening}
use Rattle.tko_steps.specs.declared.phase.Slots.{Slots}
use Rattle.tko_steps.specs.declared.phase.ThreadState.{ThreadState}
use Rattle.tko_steps.specs.declared.phase.ThreadState.TheVariants.{NotEnrolled, InCall}
use Rattle.tko_steps.specs.Core.{CoreState, abstract_of, drawn_number, thread_at}
use Rattle.tko_steps.specs.Owners.{owner_of, has_number, is_enrolled}
use Rattle.tko_steps.specs.Invariant.{IsCore, IsGroup, IsThread, firm_at, held_at, holds, holds_in, is_loose, is_loose_in}
use Rattle.tko_steps.proofs.CountLemmas.{AreCounts, bit, holds-other, holds-own, in_own, IsOn, loose-other, loose-own, soft-other, soft-own, unread}
use Rattle.tko_steps.proofs.ThreadLemmas.{count_by-moved, count_by-set_same, number-lt, number-once}
use Rattle.tko_steps.proofs.KnownLemmas.{IsFreeFor, IsThread-kept}
use Rattle.tko_steps.proofs.SoftMarkLemmas.{AreApart-each, IsBacked, IsBacked-thread, has_soft-le, has_soft_in, loose-le}

-- what the soft word of the group of a server counts
pub own-group : (core : CoreState) (server : ℕ) → IsCore core → IsGroup core (group_of core.settings server)
own-group core server is = is.counts (group_of core.settings server) (group_of-lt core.settings server is.settings)

-- that word is there
pub group-there : (core : CoreState) (server : ℕ) → IsCore core → group_of core.settings server < length core.shared.slots
group-there core server is = omega (arith, is.soft_words, group_of-lt core.settings server is.settings)

-- one soft mark is settled where a call is about to loosen its own
pub one-le-firm : (core : CoreState) (thread : ℕ) (call : Call) (found : ServerState) (mark : Mark) (answer : Reply) → IsCore core
    → thread < length core.threads → thread_at core thread ≡ InCall call (Loosening found mark answer)
    → 0 < firm_at core (group_of core.settings call.server)
one-le-firm core thread call found mark answer is inside stands =
    let s = core.settings in
    let group = group_of s call.server in
    let servers = abstract_of core in
    let old : ThreadState = InCall call (Loosening found mark answer) in
    let others = set core.threads thread NotEnrolled in
    let backed : All (IsBacked servers) core.threads = λ i d at.
    IsBacked-thread core.settings servers (get_or core.threads i d) (is.calls i d at) in
    let most = has_soft-le s group core.threads servers (AreApart-each core.threads core.shared.enrolled is.numbers) backed in
    let loose = count_by-moved (is_loose_in s group) core.threads thread old NotEnrolled inside stands in
    let soft = count_by-moved (has_soft_in s group) core.threads thread old NotEnrolled inside stands in
    let le = sum_by-le-sum_by (λ it. bit (is_loose_in s group it)) (λ it. bit (has_soft_in s group it)) others (loose-le s group) in
    omega (arith, most, loose, soft, le, (own-group core call.server is).firm, ap bit (in_own s call.server))

-- ---- one step

-- what is counted of threads that changed state
module _ (core : CoreState) (thread : ℕ) (old new : ThreadState) (is : IsCore core) (inside : thread < length core.threads)
    (stands : thread_at core thread ≡ old) (same_enrolled : is_enrolled new ≡ is_enrolled old)
    (same_number : (number : ℕ) → has_number number new ≡ has_number number old)
    (server : ℕ) (on_old : IsOn server old) (on_new : IsOn server new) where
  abbrev own : ℕ
  own = group_of core.settings server

  -- what is counted of another group stays
  others-held : (group : ℕ) → (group ≡ own → ⊥)
      → count_by (holds_in core.settings group) (set core.threads thread new) ≡ count_by (holds_in core.settings group) core.threads
  others-held group apart =
      count_by-set_same (holds_in core.settings group) core.threads thread old new inside stands
      (holds-other core.settings server group new on_new apart ∙ sym (holds-other core.settings server group old on_old apart))

  others-loose : (group : ℕ) → (group ≡ own → ⊥)
      → count_by (is_loose_in core.settings group) (set core.threads thread new) ≡ count_by (is_loose_in core.settings group) core.threads
  others-loose group apart =
      count_by-set_same (is_loose_in core.settings group) core.threads thread old new inside stands
      (loose-other core.settings server group new on_new apart ∙ sym (loose-other core.settings server group old on_old apart))

  -- what is counted of the group
  own-held : count_by (holds_in core.settings own) (set core.threads thread new) + bit (holds old)
      ≡ count_by (holds_in core.settings own) core.threads + bit (holds new)
  own-held =
      omega (
        arith,
        count_by-moved (holds_in core.settings own) core.threads thread old new inside stands,
        ap bit (holds-own core.settings server old on_old),
        ap bit (holds-own core.settings server new on_new),
      )

  own-loose : count_by (is_loose_in core.settings own) (set core.threads thread new) + bit (is_loose old)
      ≡ count_by (is_loose_in core.settings own) core.threads + bit (is_loose new)
  own-loose =
      omega (
        arith,
        count_by-moved (is_loose_in core.settings own) core.threads thread old new inside stands,
        ap bit (loose-own core.settings server old on_old),
        ap bit (loose-own core.settings server new on_new),
      )

  -- a step that writes no health word, and leaves these counts in the soft word of its group
  pub IsCore-slots : (now : Slots) (slots : List Slots) → AreCounts core.shared.slots own now slots
      → IsThread core.settings (abstract_of core) new
      → now.held + bit (holds old) ≡ held_at core own + bit (holds new)
      → now.firm + bit (is_loose new) ≡ firm_at core own + bit (is_loose old)
      → now.firm + now.held ≤ limit_of core.settings own
      → IsCore (record {
        settings = core.settings;
        shared = record { servers = abstract_of core; slots = slots; enrolled = core.shared.enrolled };
        threads = set core.threads thread new;
      })
  IsCore-slots now slots counts knows held firm room =
      let mine = own-group core server is in
      let here = counts.here in
      record {
        settings = is.settings;
        count = is.count;
        fit = is.fit;
        threads = rw length-set is.threads;
        enrolled = count_by-set_same is_enrolled core.threads thread old new inside stands same_enrolled ∙ is.enrolled;
        numbers = λ number.
            count_by-set_same (has_number number) core.threads thread old new inside stands (same_number number) ∙ is.numbers number;
        owners = is.owners;
        calls = All-set (IsThread core.settings (abstract_of core)) core.threads thread new knows is.calls;
        soft_words = counts.count ∙ is.soft_words;
        counts = λ group below.
            ⊎_elim
            (λ (same : group ≡ own).
            rw same (record {
              held = omega (arith, own-held, held, mine.held, ap (λ (it : Slots). it.held) here);
              firm = omega (arith, own-loose, firm, mine.firm, ap (λ (it : Slots). it.firm) here);
              room = omega (arith, room, ap (λ (it : Slots). it.held) here, ap (λ (it : Slots). it.firm) here);
            }))
            (λ (apart : group ≡ own → ⊥).
            let theirs = is.counts group below in
            let there = counts.others group apart in
            record {
              held = omega (arith, others-held group apart, theirs.held, ap (λ (it : Slots). it.held) there);
              firm = omega (arith, others-loose group apart, theirs.firm, ap (λ (it : Slots). it.firm) there);
              room = omega (arith, theirs.room, ap (λ (it : Slots). it.held) there, ap (λ (it : Slots). it.firm) there);
            })
            (cases_eq group own);
      }

  -- a step that writes the server's health word, which its thread may
  pub IsCore-written : (number : ℕ) (now : ServerState) → drawn_number old ≡ Some number → server < length (abstract_of core)
      → IsFreeFor number (server_at (abstract_of core) server)
      → ((other : ℕ) → owner_of now.mark ≡ Some other → other ≡ number)
      → IsFit core.settings now.mark now.stamp
      → IsThread core.settings (set (abstract_of core) server now) new
      → bit (holds new) ≡ bit (holds old)
      → bit (is_soft now.mark) + bit (is_loose old) ≡ bit (is_soft (server_at (abstract_of core) server).mark) + bit (is_loose new)
      → IsCore (record {
        settings = core.settings;
        shared = record { servers = set (abstract_of core) server now; slots = core.shared.slots; enrolled = core.shared.enrolled };
        threads = set core.threads thread new;
      })
  IsCore-written number now named on_server free owned fit knows held soft =
      let servers = abstract_of core in
      let mine = own-group core server is in
      let was = server_at servers server in
      let named_at : drawn_number (get_or core.threads thread NotEnrolled) ≡ Some number = ap drawn_number stands ∙ named in
      let drawn = number-lt core.threads core.shared.enrolled thread number is.numbers inside named_at in
      record {
        settings = is.settings;
        count = rw length-set is.count;
        fit = All-set (λ (it : ServerState). IsFit core.settings it.mark it.stamp) servers server now fit is.fit;
        threads = rw length-set is.threads;
        enrolled = count_by-set_same is_enrolled core.threads thread old new inside stands same_enrolled ∙ is.enrolled;
        numbers = λ at.
            count_by-set_same (has_number at) core.threads thread old new inside stands (same_number at) ∙ is.numbers at;
        owners = λ at other owner.
            ⊎_elim
            (λ (same : at ≡ server).
            let here : server_at (set servers server now) at ≡ now = rw same (get_or-set_same servers server now unread on_server) in
            let mine = owned other (sym (ap (λ (it : ServerState). owner_of it.mark) here) ∙ owner) in
            omega (arith, mine, drawn))
            (λ (apart : at ≡ server → ⊥).
            let there : server_at (set servers server now) at ≡ server_at servers at = get_or-set_other servers server at now unread apart in
            is.owners at other (sym (ap (λ (it : ServerState). owner_of it.mark) there) ∙ owner))
            (cases_eq at server);
        calls = All-from_get_or (IsThread core.settings (set servers server now)) (set core.threads thread new) NotEnrolled (λ i at.
            let was : i < length core.threads = rw length-set at at in
            ⊎_elim
            (λ (same : i ≡ thread). rw (same, get_or-set_same core.threads thread new NotEnrolled inside) knows)
            (λ (apart : i ≡ thread → ⊥).
            rw (get_or-set_other core.threads thread i new NotEnrolled apart)
            (IsThread-kept core.settings servers server number now (get_or core.threads i NotEnrolled) free
            (λ theirs. apart (number-once core.threads core.shared.enrolled thread i number is.numbers inside was named_at theirs))
            (is.calls i NotEnrolled was)))
            (cases_eq i thread));
        soft_words = is.soft_words;
        counts = λ group below.
            let marks = softs_in-set core.settings group servers server now on_server in
            ⊎_elim
            (λ (same : group ≡ own).
            let own_marks = softs_in-set core.settings own servers server now on_server in
            rw same (record {
              held = omega (arith, own-held, held, mine.held);
              firm = omega (arith, own-loose, own_marks, soft, mine.firm, soft-own core.settings server now, soft-own core.settings server was);
              room = mine.room;
            }))
            (λ (apart : group ≡ own → ⊥).
            let theirs = is.counts group below in
            record {
              held = others-held group apart ∙ theirs.held;
              firm = omega (
                arith,
                others-loose group apart,
                marks,
                theirs.firm,
                soft-other core.settings server group now apart,
                soft-other core.settings server group was apart,
              );
              room = theirs.room;
            })
            (cases_eq group own);
      }
