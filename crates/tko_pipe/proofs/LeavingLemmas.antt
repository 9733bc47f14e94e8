-- What the items of a connection that was shut mean: those that waited leave.
use Rattle.std.proofs.Common.{◌≡◌, List, [], ◌∷◌, ◌++◌, refl, sym, ap, subst, ◌∙◌, map}
use Rattle.std.specs.Prelude.{flat_map}
use Rattle.tko_model.specs.Records.{Lead}
use Rattle.tko_pipe.specs.declared.waiter.Waiter.{Waiter}
use Rattle.tko_pipe.specs.declared.fates.Fates.{Fates}
use Rattle.tko_pipe.specs.declared.link.Link.{Link}
use Rattle.tko_pipe.specs.declared.link.Link.TheVariants.{Shut}
use Rattle.tko_pipe.specs.Fates.{Leaving, fate_for, leaving, fates_left}
use Rattle.tko_pipe.specs.Lives.{GaveUp, Got, IsPipeStep, Left, PipeItem, Pushed, Took, WasConnected}
use Rattle.tko_pipe.specs.Lives.{WasShut, Wrote, giving_in, got_in, heard_after, leaving_in, left_in}
use Rattle.tko_pipe.specs.Lives.{pushed_in, shut_in, took_in, unanswered_in, wrote_in}
use Rattle.tko_pipe.specs.Pipes.{IsLive, PipeState}

-- what the items lead to, from a connection that was shut: those that waited leave
pub record Leaves (old : PipeState) (left : Fates) (items : List PipeItem)
    (new : PipeState) : Type 0
  where
    pub only : items ≡ map Left (flat_map left_in items)
    pub pushed : flat_map pushed_in items ≡ []
    pub took : flat_map took_in items ≡ []
    pub gave : flat_map giving_in items ≡ []
    pub was_shut : flat_map shut_in items ≡ []
    pub wrote : flat_map wrote_in items ≡ []
    pub got : flat_map got_in items ≡ []
    pub queue : old.waiters ≡ unanswered_in items ++ new.waiters
    pub unwritten : new.unwritten ≡ old.unwritten
    pub unread : new.unread ≡ old.unread
    pub forms : new.forms ≡ old.forms
    pub heard : new.heard ≡ heard_after old.heard items
    pub fates : leaving left old.waiters ≡ flat_map left_in items ++ leaving_in new.link new.waiters

pub leaves : (old new : PipeState) (items : List PipeItem) (left : Fates) → old.link ≡ Shut left
    → Lead IsPipeStep old items new → Leaves old left items new
leaves old new [] left e same = record {
  only = refl;
  pushed = refl;
  took = refl;
  gave = refl;
  was_shut = refl;
  wrote = refl;
  got = refl;
  queue = sym (ap (λ (s : PipeState). s.waiters) same);
  unwritten = ap (λ (s : PipeState). s.unwritten) same;
  unread = ap (λ (s : PipeState). s.unread) same;
  forms = ap (λ (s : PipeState). s.forms) same;
  heard = ap (λ (s : PipeState). s.heard) same;
  fates = sym (ap (λ (s : PipeState). leaving_in s.link s.waiters) same
      ∙ ap (λ (l : Link). leaving_in l old.waiters) e);
}
leaves old new (Left it ∷ items) left e (mid, step, more) =
    let same : step.left ≡ left = let both : Shut step.left ≡ Shut left = sym step.shut ∙ e in cc in
    let after = fates_left it.waiter.by left in
    let link : mid.link ≡ Shut after =
    ap (λ (s : PipeState). s.link) step.state
    ∙ ap (λ (l : Fates). Shut (fates_left it.waiter.by l)) same in
    let rest = leaves mid new items after link more in
    let came : it.came ≡ fate_for it.waiter.by left =
    step.came ∙ ap (fate_for it.waiter.by) same in
    let is_it : it ≡ record { waiter = it.waiter; came = fate_for it.waiter.by left } =
    ap (λ fate. record { waiter = it.waiter; came = fate }) came in
    record {
      only = ap (λ (xs : List PipeItem). Left it ∷ xs) rest.only;
      pushed = rest.pushed;
      took = rest.took;
      gave = rest.gave;
      was_shut = rest.was_shut;
      wrote = rest.wrote;
      got = rest.got;
      queue = step.first ∙ ap (λ (xs : List Waiter). it.waiter ∷ xs) rest.queue;
      unwritten = rest.unwritten ∙ ap (λ (s : PipeState). s.unwritten) step.state;
      unread = rest.unread ∙ ap (λ (s : PipeState). s.unread) step.state;
      forms = rest.forms ∙ ap (λ (s : PipeState). s.forms) step.state;
      heard = rest.heard ∙ ap (λ (s : PipeState). heard_after s.heard items) step.state;
      fates = ap (leaving left) step.first
          ∙ ap (λ (l : Leaving). l ∷ leaving after mid.waiters) (sym is_it)
          ∙ ap (λ (xs : List Leaving). it ∷ xs) rest.fates;
    }
leaves old new (WasConnected ∷ items) left e (mid, step, more) =
    absurd (let f = sym step.was_connecting ∙ e in cc)
leaves old new (Pushed it ∷ items) left e (mid, step, more) = absurd (subst IsLive e step.live)
leaves old new (Wrote bytes ∷ items) left e (mid, step, more) =
    absurd (let f = sym step.connected ∙ e in cc)
leaves old new (Got bytes now ∷ items) left e (mid, step, more) =
    absurd (let f = sym step.connected ∙ e in cc)
leaves old new (Took it ∷ items) left e (mid, step, more) =
    absurd (let f = sym step.connected ∙ e in cc)
leaves old new (GaveUp it ∷ items) left e (mid, step, more) = absurd (subst IsLive e step.live)
leaves old new (WasShut it ∷ items) left e (mid, step, more) = absurd (subst IsLive e step.live)
