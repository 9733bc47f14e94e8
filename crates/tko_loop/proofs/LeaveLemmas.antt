-- A client that is to leave ends as it was to, whatever else is done for it.
use Rattle.std.proofs.Common.{◌≡◌, ℕ, List, sym, ap, subst, ◌∙◌, Some, None}
use Rattle.tko_roster.specs.Rosters.{session_at}
use Rattle.tko_mux.specs.declared.client.Client.{Client}
use Rattle.tko_mux.specs.Muxes.{MuxState}
use Rattle.tko_port.specs.declared.guest.ClientEvent.TheVariants.{Leave}
use Rattle.tko_port.specs.declared.guest.Guest.{Guest}
use Rattle.tko_port.specs.declared.guest.SharedParts.{SharedParts}
use Rattle.tko_port.specs.declared.settling.End.{End}
use Rattle.tko_worker.specs.declared.ends.EndCounts.{EndCounts}
use Rattle.tko_worker.specs.Counts.{MuxAndEnds}
use Rattle.tko_worker.specs.Workers.{HasReached, IsNoted, ListEnds, Sight, WorkerState, kept, leaving, left, listed, lost, nobody, noted, waits}
use Rattle.tko_loop.specs.Walks.{LeavesBy}

-- once that was noted
reached_leaves : {L T P : Type 0} (sight : Sight L T) (why : End)
    (old mid : MuxState (Guest L T) (SharedParts P)) (number : ℕ)
    → HasReached sight.2 (Leave why) old number mid → LeavesBy why (session_at mid.roster.slots number)
reached_leaves {L} {T} {P} sight why old mid number (nobody none same) =
    subst (LeavesBy why) (sym (ap (λ (m : MuxState (Guest L T) (SharedParts P)).
    session_at m.roster.slots number) same ∙ none)) tt
reached_leaves sight why old mid number (noted is) =
    subst (LeavesBy why) (sym is.moved.after) is.presence

-- it stays so: only a client that was not to leave is to leave for want of memory
listed_leaves : {L T P : Type 0} (sight : Sight L T) (why : End) (old new : MuxAndEnds L T P)
    (number : ℕ) (off numbers now : List ℕ) → LeavesBy why (session_at old.0.roster.slots number)
    → ListEnds sight old number off numbers new now
    → LeavesBy why (session_at new.0.roster.slots number)
listed_leaves {L} {T} {P} sight why old new number off numbers now leaves (listed is same) =
    subst (λ (m : MuxAndEnds L T P). LeavesBy why (session_at m.0.roster.slots number)) (sym same)
    leaves
listed_leaves {L} {T} {P} sight why old new number off numbers now leaves (waits is stays same) =
    subst (λ (m : MuxAndEnds L T P). LeavesBy why (session_at m.0.roster.slots number)) (sym same)
    leaves
listed_leaves {L} {T} {P} sight why old new number off numbers now leaves (lost is (kept has rests same)) =
    subst (λ (m : MuxAndEnds L T P). LeavesBy why (session_at m.0.roster.slots number)) (sym same)
    leaves
listed_leaves {L} {T} {P} sight why old new number off numbers now leaves
    (lost is (leaving has here (nobody none same) ends)) =
    subst (λ (m : MuxState (Guest L T) (SharedParts P)). LeavesBy why (session_at m.roster.slots number))
    (sym same) leaves
listed_leaves sight why old new number off numbers now leaves
    (lost is (leaving has here (noted at) ends)) =
    let before = here at.was at.moved.before in
    let leaver = subst (LeavesBy why) at.moved.before leaves in
    absurd (let both = sym before ∙ leaver in let f : ⊥ = cc both in f)
listed_leaves sight why old new number off numbers now leaves (lost is (left has counts)) =
    subst (LeavesBy why) (sym has.released.moved.after) tt

pub noted_leaves : {L T P : Type 0} (sight : Sight L T) (why : End) (old new : WorkerState L T P)
    (number : ℕ) → IsNoted sight (Leave why) old number new
    → LeavesBy why (session_at new.mux.roster.slots number)
noted_leaves sight why old new number is =
    listed_leaves sight why (is.reached, old.ends) (new.mux, new.ends) number old.spent old.touched
    new.touched (reached_leaves sight why old.mux is.reached number is.has_reached) is.listed
