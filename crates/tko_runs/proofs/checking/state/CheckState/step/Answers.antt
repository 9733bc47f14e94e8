use Rattle.std.proofs.Common.{◌≡◌, refl, sym, ◌∙◌, subst}
use Rattle.std.proofs.lemmas.List.{get_or_read}
use Rattle.tko_runs.specs.declared.checking.point.CheckedCall.{CheckedCall}
use Rattle.tko_runs.specs.CheckStates.{Shows}
use Rattle.tko_runs.specs.States.{servers_written}
use Rattle.tko_runs.proofs.CheckStateLemmas.{call_on_server}
use Rattle.tko_runs.proofs.KeptLemmas.{latest_inside}
use Rattle.tko_runs.proofs.checking.state.CheckState.step.Goals as goal

pub last-requires-clause-latest : goal.last-requires-clause-latest
last-requires-clause-latest c =
    let d = c.args.self.now in
    latest_inside d.settings d.run c.requires.state.past d.calls c.args.thread c.requires.state.stands.calls c.requires.comes.0.1

pub effect_of-effect-requires-clause-call : goal.effect_of-effect-requires-clause-call
effect_of-effect-requires-clause-call c =
    rw c.servers.ensures
    (call_on_server c.requires.state.past c.args.self.now c.args.thread c.last.result.now c.requires.state.stands c.requires.comes.0.1 c.last.ensures)

pub step-requires-clause-latest : goal.step-requires-clause-latest
step-requires-clause-latest c =
    let d = c.args.self.now in
    latest_inside d.settings d.run c.requires.state.past d.calls c.args.thread c.requires.state.stands.calls c.requires.comes.0.1

pub returns-clause-ok : goal.returns-clause-ok
returns-clause-ok c =
    let d = c.args.self.now in
    let there = latest_inside d.settings d.run c.requires.state.past d.calls c.args.thread c.requires.state.stands.calls c.requires.comes.0.1 in
    let grows = c.in_ok-step.ensures in
    let last : c.last.result.now ≡ grows.call =
    get_or_read d.calls.all.items _ _ there c.last.ensures grows.call ∙ sym grows.is in
    let P : CheckedCall → Type 0 = λ call.
    Shows d.settings d.run.words.servers call (servers_written d.run.words.servers c.args.place c.args.left) c.effect_of-effect.result in
    record {
      follows = c.follows.ensures.0 c.if-not-follows.false;
      effect = c.effect_of-effect.result;
      numbered = c.effect_of-effect.ensures.at;
      grows = grows;
      shows = subst P last (rw c.servers.ensures at c.effect_of-effect.ensures.shows);
      settings = refl;
      run = refl;
      steps = refl;
    }
