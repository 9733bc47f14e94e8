-- A call under way: what its loop keeps, from its begin to its answer.
use Rattle.std.proofs.Common.{◌≡◌, ℕ, ◌<◌, List, [], ◌∷◌, ◌++◌, refl, sym, ap, ◌∙◌, subst, arith}
use Rattle.tko_model.specs.declared.mark.Op.{Op}
use Rattle.tko_model.specs.declared.mark.Reply.{Reply}
use Rattle.tko_model.specs.Settings.{Settings}
use Rattle.tko_model.specs.Ranges.{IsWithinRanges}
use Rattle.tko_steps.specs.declared.phase.Call.{Call}
use Rattle.tko_steps.specs.declared.phase.Phase.{Phase}
use Rattle.tko_steps.specs.declared.phase.Phase.TheVariants.{Start}
use Rattle.tko_steps.specs.declared.phase.ThreadState.TheVariants.{Idle, InCall}
use Rattle.tko_steps.specs.Runs.{OwnStep}
use Rattle.tko_steps.specs.Steps.{begun_by, in_call}
use Rattle.tko_table.specs.declared.pass.PassView.{PassView}
use Rattle.tko_table.specs.History.{changes_in, made_by, made_with, place_of_answer}
use Rattle.tko_tracker.specs.Tries.{HasTried, Taken, and_steps, own_steps}
use Rattle.tko_tracker.specs.Calls.{Called, LeadsToAnswer}
use Rattle.tko_tracker.specs.Running.{CanCall, IsReady}
use Rattle.tko_tracker.specs.History.{Adds, IsAnsweredAt}
use Rattle.tko_tracker.proofs.AddedLemmas.{HasAdded, HasEnded, added-none}
use Rattle.tko_tracker.proofs.KnowsLemmas.{Knows}
use Rattle.tko_tracker.proofs.LookLemmas.{SeenAt}
use Rattle.tko_tracker.proofs.TryLemmas.{KnowsAnywhere, begins-anywhere}

-- the call of the pass that the view had first, at this phase
pub record IsUnderWay
    (s : Settings) (number : ℕ) (op : Op) (server : ℕ) (before : List PassView) (call : Call)
    (phase : Phase) (view : List PassView) : Type 0
  where
    pub first : PassView
    pub now : PassView
    pub was : before ≡ first ∷ []
    pub is : view ≡ now ∷ []
    pub idle : first.state ≡ Idle number
    pub same : first.settings ≡ s
    pub settings : now.settings ≡ s
    pub within : number < s.threads
    pub by : call.number ≡ number
    pub does : call.op ≡ op
    pub on : call.server ≡ server
    pub stands : in_call now.state op server ≡ InCall call phase
    pub knows : Knows s first.steps first.owned call phase now.steps now.owned
    pub added : HasAdded s first now call phase
    -- its own steps so far, the newest first
    pub own : List OwnStep
    pub tried : KnowsAnywhere s call own phase
    pub seen : SeenAt s call.number call.server now.seen phase
    -- what follows makes a whole call
    pub rest : (steps : List Taken) (answer : Reply) (after : PassView) →
        LeadsToAnswer now call phase steps answer after → HasTried s answer (and_steps own steps)
        → Called first op server answer after

-- the call begins
pub begins : (s : Settings) (number : ℕ) (op : Op) (server : ℕ) (view : List PassView)
    → IsWithinRanges s → CanCall s number view
    → IsUnderWay s number op server view (begun_by number op server) Start view
begins s number op server view ranges can =
    record {
      first = can.pass;
      now = can.pass;
      was = can.alone;
      is = can.alone;
      idle = can.state;
      same = can.settings;
      settings = can.settings;
      within = can.within;
      by = refl;
      does = refl;
      on = refl;
      stands = ap (λ state. in_call state op server) can.state;
      knows = record {
        lost = omega (arith, ranges.tries.0);
        few = omega arith;
        at = refl;
        writes = tt;
        owner = λ own. tt;
      };
      added = added-none s can.pass (begun_by number op server);
      own = [];
      tried = begins-anywhere s (begun_by number op server) refl;
      seen = tt;
      rest = λ steps answer after leads tried.
          record {
            number = number;
            idle = can.state;
            steps = steps;
            leads = leads;
            tried = subst (λ it. HasTried it answer (own_steps steps)) (sym can.settings) tried;
          };
    }

pub ready : (s : Settings) (number : ℕ) (op : Op) (server : ℕ) (before : List PassView)
    (call : Call) (phase : Phase) (view : List PassView)
    → IsUnderWay s number op server before call phase view → IsReady s view call phase
ready s number op server before call phase view at =
    record {
      pass = at.now;
      alone = at.is;
      settings = at.settings;
      stands = ap (λ it. in_call at.now.state it call.server) at.does
          ∙ ap (λ it. in_call at.now.state op it) at.on ∙ at.stands;
      writes = at.knows.writes;
    }

-- a call that ended, by the number, operation and server that it began with
pub ended-adds : (s : Settings) (first mid : PassView) (number : ℕ) (op : Op) (server : ℕ)
    (call : Call) (answer : Reply) → first.state ≡ Idle number → first.settings ≡ s
    → call.number ≡ number → call.op ≡ op → call.server ≡ server → HasEnded s first mid call answer
    → Adds first op server answer mid
ended-adds s first mid number op server call answer idle same by does on ended =
    let made : made_with call answer ended.at
    ≡ made_with (begun_by number op server) answer ended.at =
    λ i. record {
      op = does i;
      server = on i;
      reply = answer;
      at = place_of_answer answer ended.at;
    } in
    record {
      number = number;
      idle = idle;
      at = ended.at;
      more = ended.more;
      seen = ended.seen;
      own = ap (λ it. made_by it ended.more) (sym by) ∙ ended.own
          ∙ (λ i. changes_in (by i) (made i ∷ []));
      mine = ended.mine ∙ ap (λ it. first.mine ++ it ∷ []) made;
      decided = λ differs. subst (λ it. it) (λ i. IsAnsweredAt (sym same i) (by i) (does i)
          (on i) answer ended.at first.seen mid.seen) (ended.decided differs);
      stepped = ended.stepped;
      at_once = ended.at_once;
      alone = λ one. ended.alone (ap (λ (it : Settings). it.threads) (sym same) ∙ one);
    }

pub head : (one other : PassView) → one ∷ [] ≡ other ∷ [] → one ≡ other
head one other e = cc
