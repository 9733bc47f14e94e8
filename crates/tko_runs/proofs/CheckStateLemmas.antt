-- What the state of a check keeps is kept by each event.
use Rattle.std.proofs.Common.{◌≡◌, ℕ, ◌+◌, ◌<◌, Bool, true, false, cond, List, ◌∷◌, length, get_or, Option, inl, inr, refl, sym, ap, ◌∙◌, subst, arith}
use Rattle.std.proofs.lemmas.List.Elements.{All-set}
use Rattle.tko_model.specs.declared.mark.Op.{Op}
use Rattle.tko_model.specs.declared.mark.Reply.{Reply}
use Rattle.tko_model.specs.Settings.{Settings}
use Rattle.tko_model.specs.declared.state.ServerState.{ServerState}
use Rattle.tko_model.specs.Tracker.{server_at}
use Rattle.tko_runs.specs.declared.checking.calls.CheckedCalls.{CheckedCalls}
use Rattle.tko_runs.specs.declared.checking.point.CheckedCall.{CheckedCall}
use Rattle.tko_runs.specs.declared.checking.state.CheckState.{CheckState}
use Rattle.tko_runs.specs.declared.run.event.Event.{Event}
use Rattle.tko_runs.specs.declared.run.event.Event.TheVariants.{Begin, Step}
use Rattle.tko_runs.specs.States.{CanCome, HasCall, RunState, entry_at, entry_number, moment_of, servers_written, state_after, wrote}
use Rattle.tko_runs.specs.CheckStates.{AllValid, HasBegun, HasEntered, HasFollowed, IsCheckOf}
use Rattle.tko_runs.specs.Words.{CanLeave, CanLeaveServer, GroupLimits, IsValid, room_at}
use Rattle.tko_steps.specs.declared.step.StepKind.{StepKind}
use Rattle.tko_steps.specs.declared.step.StepKind.TheVariants as kind
use Rattle.tko_steps.specs.declared.step.Place.{Place}
use Rattle.tko_steps.specs.declared.step.Place.TheVariants as place
use Rattle.tko_steps.specs.declared.step.Word.{Word}
use Rattle.tko_steps.specs.declared.step.Word.TheVariants as word
use Rattle.tko_steps.specs.Core.{is_call_step, word_at}
use Rattle.tko_steps.specs.Runs.{Moment, StepTaken, step_count_of, steps_in}
use Rattle.tko_runs.proofs.KeptLemmas.{AreCalls-begun, AreCalls-enrolled, AreCalls-stepped, IsEffect-shown, latest_inside}

-- Valid words.

-- what a step leaves of a valid word is a valid word
left-valid : (s : Settings) (held : ℕ) (by : StepKind) (found left : ServerState) → CanLeaveServer s held by found left
    → IsValid s found → IsValid s left
left-valid s held kind.Look found left can valid = subst (IsValid s) (sym can) valid
left-valid s held kind.Count found left (inl same) valid = subst (IsValid s) (sym same) valid
left-valid s held kind.Count found left (inr won) valid = won.valid
left-valid s held kind.Mark found left (inl same) valid = subst (IsValid s) (sym same) valid
left-valid s held kind.Mark found left (inr won) valid = won.valid
left-valid s held kind.Own found left can valid = can.valid
left-valid s held kind.Reserve found left can valid = absurd can
left-valid s held kind.Shift found left can valid = absurd can
left-valid s held kind.Give found left can valid = absurd can
left-valid s held kind.Enrol found left can valid = absurd can

written-valid : (s : Settings) (room : GroupLimits) (servers : List ServerState) (by : StepKind) (at : Place) (found left : Word)
    → AllValid s servers → ((server : ℕ) → at ≡ place.Server server → (server < length servers) × (found ≡ word.Server (server_at servers server)))
    → CanLeave s room by found left → AllValid s (servers_written servers at left)
written-valid s room servers by (place.Server server) (word.Server found) (word.Server left) valid finds can =
    let here = finds server refl in
    let same : found ≡ server_at servers server = cc here.1 in
    All-set (IsValid s) servers server left
    (left-valid s room.held by found left can (subst (IsValid s) (sym same) (valid server _ here.0))) valid
written-valid s room servers by (place.Server server) (word.Soft found) (word.Server left) valid finds can = absurd can
written-valid s room servers by (place.Server server) (word.Enrolled found) (word.Server left) valid finds can = absurd can
written-valid s room servers by (place.Server server) found (word.Soft left) valid finds can = valid
written-valid s room servers by (place.Server server) found (word.Enrolled left) valid finds can = valid
written-valid s room servers by (place.Soft group) found left valid finds can = valid
written-valid s room servers by place.Enrolment found left valid finds can = valid

-- The three kinds of events.

IsCheckOf-begun : (past : List Moment) (old : CheckState) (thread : ℕ) (op : Op) (server : ℕ) (calls : CheckedCalls) → IsCheckOf past old
    → CanCome old.run (Begin thread op server)
    → HasBegun old.calls thread (entry_number (entry_at old.run thread)) op server calls
    → IsCheckOf (moment_of old.run (Begin thread op server) ∷ past)
    (record old { run = state_after old.run (Begin thread op server); calls = calls })
IsCheckOf-begun past old thread op server calls is come begun =
    record {
      settings = is.settings;
      valid = is.valid;
      steps = is.steps;
      calls = AreCalls-begun old.settings old.run past old.calls calls thread (entry_number (entry_at old.run thread)) op server
          is.calls begun come.0.0 come.1 come.0.1;
    }

pub enters_begun : (old : CheckState) (event : Event) (run : RunState) (thread number : ℕ) (op : Op) (server : ℕ) (calls : CheckedCalls)
    → event ≡ Begin thread op server → CanCome old.run event
    → number ≡ entry_number (entry_at old.run thread) → HasBegun old.calls thread number op server calls
    → run ≡ state_after old.run event → HasEntered old event (record old { run = run; calls = calls })
enters_begun old event run thread number op server calls is come drawn begun now =
    let can : CanCome old.run (Begin thread op server) = rw is at come in
    let has : HasBegun old.calls thread (entry_number (entry_at old.run thread)) op server calls = rw drawn at begun in
    rw (now, is)
    (record {
      settings = refl;
      follows = tt;
      run = refl;
      stands = λ past stands. IsCheckOf-begun past old thread op server calls stands can has;
    })

-- what happened at a step
abbrev taken : RunState → ℕ → StepKind → Place → Word → Word → Option Reply → List ServerState → StepTaken
taken run thread by at found left answer after =
    record {
      thread = thread;
      kind = by;
      place = at;
      found = found;
      left = left;
      won = wrote by found left;
      answer = answer;
      before = run.words.servers;
      after = after;
    }

pub enters_enrolled : (old : CheckState) (event : Event) (run : RunState) (thread : ℕ) (by : StepKind) (at : Place) (found left : Word) (answer : Option Reply)
    → event ≡ Step thread by at found left answer → is_call_step by ≡ false → CanCome old.run event
    → run ≡ state_after old.run event → HasEntered old event (record old { run = run })
enters_enrolled old event run thread kind.Look at found left answer is enrols come now = cc
enters_enrolled old event run thread kind.Count at found left answer is enrols come now = cc
enters_enrolled old event run thread kind.Mark at found left answer is enrols come now = cc
enters_enrolled old event run thread kind.Own at found left answer is enrols come now = cc
enters_enrolled old event run thread kind.Reserve at found left answer is enrols come now = cc
enters_enrolled old event run thread kind.Shift at found left answer is enrols come now = cc
enters_enrolled old event run thread kind.Give at found left answer is enrols come now = cc
enters_enrolled old event run thread kind.Enrol at found left answer is enrols come now =
    let can : CanCome old.run (Step thread kind.Enrol at found left answer) = rw is at come in
    let step = taken old.run thread kind.Enrol at found left answer old.run.words.servers in
    rw (now, is)
    (record {
      settings = refl;
      follows = rw (can.1.at_enrolment, can.1.finds, can.1.leaves) (record { finds = refl; can = (refl, refl) });
      run = refl;
      stands = λ past stands. record {
        settings = stands.settings;
        valid = stands.valid;
        steps = omega (arith, stands.steps);
        calls = AreCalls-enrolled old.settings old.run past old.calls step stands.calls can.0.0 can.0.1;
      };
    })

-- a word that is found at a server's place is that server's
finds-server : (run : RunState) (at : Place) (found : Word) (server : ℕ) → found ≡ word_at run.words at
    → at ≡ place.Server server → found ≡ word.Server (server_at run.words.servers server)
finds-server run at found server finds there = rw there at finds

IsCheckOf-followed : (past : List Moment) (old mid : CheckState) (thread : ℕ) (by : StepKind) (at : Place) (found left : Word) (answer : Option Reply)
    → IsCheckOf past old → is_call_step by ≡ true
    → CanCome old.run (Step thread by at found left answer)
    → HasFollowed old thread by at found left answer mid
    → IsCheckOf (moment_of old.run (Step thread by at found left answer) ∷ past)
    (record mid { run = state_after mid.run (Step thread by at found left answer) })
IsCheckOf-followed past old mid thread by at found left answer is steps come did =
    let after = servers_written old.run.words.servers at left in
    let step = taken old.run thread by at found left answer after in
    let can = rw steps at come in
    let one : 1 ≡ step_count_of by = ap (λ (t : Bool). cond t 1 0) (sym steps) in
    let number : old.steps + 1 ≡ steps_in past + step_count_of by = ap (λ n. n + 1) is.steps ∙ ap (λ n. steps_in past + n) one in
    rw (did.settings, did.run, steps) (record {
      settings = is.settings;
      valid = written-valid old.settings (room_at old.settings old.run.words.slots at) old.run.words.servers by at found left is.valid
          (λ server there. (rw there at can.1.0, finds-server old.run at found server did.follows.finds there)) did.follows.can;
      steps = did.steps ∙ number;
      calls = AreCalls-stepped old.settings old.run past old.calls mid.calls did.effect answer at left step is.calls did.grows
          can.0.0 can.0.1 refl
          (λ other kept. IsEffect-shown old.settings old.run.words.servers after did.grows.call did.effect other _ did.shows
          (did.numbered ∙ number) kept.number kept.op kept.server refl refl);
    })

pub enters_followed : (old mid : CheckState) (event : Event) (run : RunState) (thread : ℕ) (by : StepKind) (at : Place) (found left : Word) (answer : Option Reply)
    → event ≡ Step thread by at found left answer → is_call_step by ≡ true → CanCome old.run event
    → HasFollowed old thread by at found left answer mid
    → run ≡ state_after mid.run event → HasEntered old event (record mid { run = run })
enters_followed old mid event run thread by at found left answer is steps come did now =
    let can : CanCome old.run (Step thread by at found left answer) = rw is at come in
    rw (now, is)
    (record {
      settings = did.settings;
      follows = did.follows;
      run = ap (λ it. state_after it (Step thread by at found left answer)) did.run;
      stands = λ past stands. IsCheckOf-followed past old mid thread by at found left answer stands steps can did;
    })

-- the call that a thread with a call began last is on a server that is there
pub call_on_server : (past : List Moment) (d : CheckState) (thread : ℕ) (call : CheckedCall) → IsCheckOf past d → HasCall (entry_at d.run thread)
    → call ≡ get_or d.calls.all.items (get_or d.calls.latest.items thread 0) call → call.server < length d.run.words.servers
call_on_server past d thread call is has e =
    let P : CheckedCall → Type 0 = λ own. own.server < length d.run.words.servers in
    let there = latest_inside d.settings d.run past d.calls thread is.calls has in
    subst P (sym e) (is.calls.on_server (get_or d.calls.latest.items thread 0) call there)
