use Rattle.tko_pipe.proofs.GivingLemmas.{gave_up, may_within, still_a_pipe}
use Rattle.tko_pipe.proofs.pipe.Pipe.give_up.Goals as goal

pub give_up_at-requires : goal.give_up_at-requires
give_up_at-requires c =
    may_within _ c.args.self.now c.args.now c.args.place c.self.view_is c.requires.may

pub invariant_of-self-2 : goal.invariant_of-self-2
invariant_of-self-2 c =
    let all = still_a_pipe _ c.args.self.now c.args.now c.args.place c.self.inside.queued
    c.in_ok-form.form c.give_up_at.new.waiters.items c.keep_form.new.forms.items c.self.view_is
    c.requires.live c.requires.may c.give_up_at.ensures c.in_ok-keep_form.ensures.ok
    c.self.invariant.0 c.self.invariant.1 c.self.invariant.3 in
    (all.0, all.1, c.self.invariant.2, all.2)

pub returns-clause-ok : goal.returns-clause-ok
returns-clause-ok c =
    gave_up _ c.args.self.now c.args.now c.args.place c.args.request.now c.in_ok-form.form
    c.give_up_at.new.waiters.items c.keep_form.new.forms.items c.self.view_is c.requires.live
    c.requires.may c.in_ok-form.ensures c.in_ok-keep_form.ensures.ok c.give_up_at.ensures
