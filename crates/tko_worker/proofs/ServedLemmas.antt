-- What many acts of clients are together.
use Rattle.std.proofs.Common.{◌≡◌, ◌+◌, List, [], ◌∷◌, ◌++◌, refl, sym, ap, ◌∙◌, length, length-append}
use Rattle.tko_model.specs.Records.{Lead}
use Rattle.tko_roster.specs.Rosters.{Acted, Admitted, IsRosterStep, Released}
use Rattle.tko_roster.specs.Tagged.{Tagged}
use Rattle.tko_roster.proofs.RosterLemmas.{serves}
use Rattle.tko_mux.specs.Asks.{IsCall}
use Rattle.tko_port.specs.declared.settling.End.{End}
use Rattle.tko_port.specs.Guests.{IsGuestCall}
use Rattle.tko_worker.specs.declared.ends.EndCounts.{EndCounts}
use Rattle.tko_worker.specs.Acts.{ClientAct, CountsAct, HasActed, HasServed, IsClientStep, RosterAndEnds, all_counted, clients_left_in, one_left}
use Rattle.tko_worker.specs.Workers.{Sight, WorkerState}

counted-append : (whys others : List End) (ends : EndCounts)
    → all_counted (whys ++ others) ends ≡ all_counted others (all_counted whys ends)
counted-append [] others ends = refl
counted-append (why ∷ whys) others ends = counted-append whys others _

-- the end that an act counts, if it counts one
record CountsOne {L T : Type 0} (act : ClientAct L T) (old new : EndCounts) : Type 0 where
  whys : List End
  each : length whys ≡ one_left act
  ends : new ≡ all_counted whys old

counts_one : {L T : Type 0} (act : ClientAct L T) (old new : EndCounts) → CountsAct act old new
    → CountsOne act old new
counts_one (Admitted client) old new counts = record { whys = []; each = refl; ends = counts }
counts_one (Acted call) old new counts = record { whys = []; each = refl; ends = counts }
counts_one (Released client) old new counts =
    record { whys = counts.0 ∷ []; each = refl; ends = counts.1 }

-- acts, as those of the roster alone, and with the ends that they count
record ActsApart {L T P : Type 0} (sight : Sight L T) (old : RosterAndEnds L T P)
    (acts : List (Tagged (ClientAct L T))) (new : RosterAndEnds L T P) : Type 0 where
  leads : Lead (IsRosterStep (IsCall (IsGuestCall sight.0 sight.1 sight.2)
      (λ guest. sight.0 guest.talk)) (λ client. sight.0 client.session.talk)) old.0 acts new.0
  whys : List End
  each : length whys ≡ clients_left_in acts
  ends : new.1 ≡ all_counted whys old.1

apart : {L T P : Type 0} (sight : Sight L T) (old : RosterAndEnds L T P)
    (acts : List (Tagged (ClientAct L T))) (new : RosterAndEnds L T P)
    → Lead (IsClientStep sight) old acts new → ActsApart sight old acts new
apart {L} {T} {P} sight old [] new same = record {
  leads = ap (λ (r : RosterAndEnds L T P). r.0) same;
  whys = [];
  each = refl;
  ends = ap (λ (r : RosterAndEnds L T P). r.1) same;
}
apart sight old (it ∷ acts) new (mid, step, rest) =
    let first = counts_one it.item old.1 mid.1 step.1 in
    let more = apart sight mid acts new rest in record {
      leads = (mid.0, step.0, more.leads);
      whys = first.whys ++ more.whys;
      each = length-append first.whys more.whys ∙ ap (λ n. n + length more.whys) first.each
          ∙ ap (λ n. one_left it.item + n) more.each;
      ends = more.ends ∙ ap (all_counted more.whys) first.ends
          ∙ sym (counted-append first.whys more.whys old.1);
    }

pub all_served : {L T P : Type 0} (sight : Sight L T) (old new : WorkerState L T P)
    → HasActed sight old new → HasServed sight old new
all_served sight old new acted =
    let both = apart sight (old.mux.roster, old.ends) acted.acts (new.mux.roster, new.ends)
    acted.gains.leads in record {
      acts = acted.acts;
      served = serves
          (IsCall (IsGuestCall sight.0 sight.1 sight.2) (λ guest. sight.0 guest.talk))
          (λ client. sight.0 client.session.talk) old.mux.roster acted.acts new.mux.roster
          (record { leads = both.leads });
      whys = both.whys;
      each = both.each;
      ends = both.ends;
    }
