use Rattle.std.proofs.Common.{rules, ◌≡◌, ◌+◌, ◌++◌, ◌-◌, ◌∷◌, ◌∙◌, [], List, ap, sym, subst, arith, length, length-append}
use Rattle.tko_text.specs.Requests.{request_text}
use Rattle.tko_pipe.specs.declared.waiter.Waiter.{Waiter}
use Rattle.tko_pipe.specs.Pipes.{is_asked}
use Rattle.tko_pipe.specs.Waiters.{HasForms}
use Rattle.tko_pipe.proofs.KeptLemmas.{asked_pushed, forms_pushed, lengths_pushed}
use Rattle.tko_pipe.proofs.pipe.Pipe.push.Goals as goal

pub invariant_of-self-2 : goal.invariant_of-self-2
invariant_of-self-2 c =
    let it : Waiter = record {
      by = c.args.by;
      due = c.args.due;
      len = c.len.result - c.len-before.result;
    } in
    let pushed : c.push_back.new.self.items ≡ c.self.inside.waiters.items ++ it ∷ [] =
    search rules in
    let sum : c.in-Some.queued ≡ c.self.inside.queued + it.len = search rules in
    let whole : length c.append_request.new.self
    ≡ length c.self.inside.unwritten + length (request_text c.args.request.now) =
    ap length c.in_ok-append_request.ensures.ok
    ∙ length-append c.self.inside.unwritten (request_text c.args.request.now) in
    let len : length c.append_request.new.self ≡ length c.self.inside.unwritten + it.len =
    omega (arith, whole, c.len.ensures.len, c.len-before.ensures.len) in (
      lengths_pushed c.self.inside.queued c.in-Some.queued c.self.inside.waiters.items
          c.push_back.new.self.items it c.self.invariant.0 sum pushed,
      ap (λ (w : List Waiter). is_asked c.self.inside.unread w c.append_request.new.self) pushed
          ∙ asked_pushed c.self.inside.unread c.self.inside.waiters.items it
          c.self.inside.unwritten c.append_request.new.self len c.self.invariant.1,
      c.self.invariant.2,
      subst (λ (w : List Waiter). HasForms c.self.inside.link w c.self.inside.forms.items)
          (sym pushed) (forms_pushed c.self.inside.link c.self.inside.waiters.items it
          c.self.inside.forms.items c.requires.here c.self.invariant.3),
    )
