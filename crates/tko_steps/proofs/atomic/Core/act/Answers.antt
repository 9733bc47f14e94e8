use Rattle.std.proofs.Common.{◌≡◌, subst, sym}
use Rattle.tko_steps.specs.Core.{CoreState, after_act, reported_by_act, shared_after}
use Rattle.tko_steps.specs.StepNeeds.{CanAct, IsPlace}
use Rattle.tko_steps.specs.Invariant.{IsCore}
use Rattle.tko_steps.specs.Steps.{place_of}
use Rattle.tko_steps.specs.Table.{action_of}
use Rattle.tko_steps.proofs.PhaseStepLemmas.{IsCore-after_act}
use Rattle.tko_steps.proofs.RoomLemmas.{CanAct-at, IsPlace-at}
use Rattle.tko_steps.proofs.StepLemmas.{IsPlace-after, reported, reported-is}
use Rattle.tko_steps.proofs.atomic.Core.act.Goals as goal

pub act-seen-requires : goal.act-seen-requires
act-seen-requires c =
    let call = c.args.call in
    let phase = c.args.phase in
    let P : CoreState → Type 0 = λ core. CanAct core.settings core.shared call.server (action_of call.number phase) in
    let is = subst IsCore c.self.view_is c.self.invariant in
    rw c.action-action.ensures
    (subst P (sym c.self.view_is) (CanAct-at c.args.self.now c.args.thread call is c.requires.thread phase c.requires.state))

pub invariant_of-self : goal.invariant_of-self
invariant_of-self c =
    let call = c.args.call in
    let phase = c.args.phase in
    let P : CoreState → Type 0 = λ core. IsCore (after_act core c.args.thread call phase) in
    let is = subst IsCore c.self.view_is c.self.invariant in
    rw (c.state.ensures, c.next-following.ensures, c.act-seen.ensures.state, c.act-seen.ensures.seen, c.action-action.ensures)
    (subst P (sym c.self.view_is) (IsCore-after_act c.args.self.now c.args.thread call is c.requires.thread phase c.requires.state))

pub returns-clause-reported : goal.returns-clause-reported
returns-clause-reported c =
    let call = c.args.call in
    let phase = c.args.phase in
    let core = c.args.self.now in
    let is = subst IsCore c.self.view_is c.self.invariant in
    let P : CoreState → Type 0 = λ it. reported it call phase ≡ reported_by_act core call phase in
    rw (c.kind.ensures, c.at.ensures, c.is_done.ensures, c.answer.ensures, c.next-following.ensures, c.act-seen.ensures.state, c.act-seen.ensures.seen, c.at-found.ensures, c.place-place.ensures, c.action-action.ensures)
    (subst P (sym c.self.view_is)
    (reported-is core call phase (IsPlace-at core c.args.thread call is c.requires.thread phase c.requires.state)))

pub at-found-requires : goal.at-found-requires
at-found-requires c =
    let call = c.args.call in
    let phase = c.args.phase in
    let core = c.args.self.now in
    let is = subst IsCore c.self.view_is c.self.invariant in
    let P : CoreState → Type 0 = λ it. IsPlace it.shared (place_of it.settings call.server (action_of call.number phase)) in
    rw (c.place-place.ensures, c.action-action.ensures)
    (subst P (sym c.self.view_is) (IsPlace-at core c.args.thread call is c.requires.thread phase c.requires.state))

pub at-requires : goal.at-requires
at-requires c =
    let call = c.args.call in
    let phase = c.args.phase in
    let core = c.args.self.now in
    let act = action_of call.number phase in
    let is = subst IsCore c.self.view_is c.self.invariant in
    let P : CoreState → Type 0 = λ it.
    IsPlace (shared_after it.settings it.shared call.server act) (place_of it.settings call.server act) in
    rw (c.act-seen.ensures.state, c.place-place.ensures, c.action-action.ensures)
    (subst P (sym c.self.view_is)
    (IsPlace-after core.settings core.shared call.server act (place_of core.settings call.server act)
    (IsPlace-at core c.args.thread call is c.requires.thread phase c.requires.state)))
