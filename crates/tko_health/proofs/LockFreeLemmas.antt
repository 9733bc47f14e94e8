-- Laws of a pass's record.
use Rattle.std.proofs.Common.{◌≡◌, ◌≢◌, ℕ, List, [], ◌∷◌, ◌++◌, All, Some, refl, ap, sym, subst, arith, ◌∙◌}
use Rattle.std.proofs.lemmas.List.{append-nil, append_assoc}
use Rattle.std.proofs.lemmas.List.Elements.{All-cons, All-nil}
use Rattle.tko_model.specs.declared.mark.Op.{Op}
use Rattle.tko_model.specs.declared.mark.Reply.{Reply}
use Rattle.tko_model.specs.declared.mark.Reply.TheVariants as reply
use Rattle.tko_model.specs.Records.{Called, HealthItem, Lead, NoDuty}
use Rattle.tko_model.specs.Settings.{Settings}
use Rattle.tko_steps.specs.declared.phase.ThreadState.TheVariants.{Idle}
use Rattle.tko_steps.specs.Steps.{begun_by}
use Rattle.tko_table.specs.declared.pass.Change.{Change}
use Rattle.tko_table.specs.declared.pass.Made.{Made}
use Rattle.tko_table.specs.declared.pass.PassView.{PassView}
use Rattle.tko_table.specs.History.{changes_in, made_by, made_with, place_of_answer}
use Rattle.tko_table.proofs.AddedChangeLemmas.{changes_in-append, made_by-append}
use Rattle.tko_tracker.specs.History.{Adds, IsAnsweredAt, own_change}
use Rattle.tko_tracker.specs.Seated.{IsOf, Seated, TrackerId}
use Rattle.tko_health.specs.LockFree.{IsPassRecord, IsPassStep, IsRepliedIn, MakesCalls, owned_by}

-- ---- a reply at a place of the history

placed : (answer : Reply) (at place : ℕ) → place_of_answer answer at ≡ Some place → (answer ≢ reply.Contended) × (at ≡ place)
placed (reply.Up count) at place is = (λ e. cc, cc)
placed (reply.Marked mark) at place is = (λ e. cc, cc)
placed (reply.Counted count) at place is = (λ e. cc, cc)
placed reply.TookSoft at place is = (λ e. cc, cc)
placed reply.Full at place is = (λ e. cc, cc)
placed (reply.Already mark) at place is = (λ e. cc, cc)
placed reply.Worn at place is = (λ e. cc, cc)
placed reply.Contended at place is = absurd (cc is)
placed reply.TookHard at place is = (λ e. cc, cc)
placed reply.Hardened at place is = (λ e. cc, cc)
placed reply.Clean at place is = (λ e. cc, cc)
placed (reply.Reset count) at place is = (λ e. cc, cc)
placed (reply.Unmarked mark) at place is = (λ e. cc, cc)
placed (reply.Released mark) at place is = (λ e. cc, cc)
placed (reply.NotMine mark) at place is = (λ e. cc, cc)

-- it is the same in the whole history that is seen later
replied-later : (s : Settings) (number : ℕ) (op : Op) (server : ℕ) (answer : Reply) (at : ℕ) (begun seen more : List Change)
    → IsAnsweredAt s number op server answer at begun seen → IsAnsweredAt s number op server answer at [] (seen ++ more)
replied-later s number op server answer at begun seen more is =
    let own = own_change number op server answer in
    record {
      since = begun ++ is.since;
      later = is.later ++ more;
      place = is.place;
      among = ap (λ it. it ++ more) is.among ∙ append_assoc (begun ++ is.since) (own ++ is.later) more
          ∙ ap (λ it. (begun ++ is.since) ++ it) (append_assoc own is.later more);
      servers = is.servers;
      replays = is.replays;
      reply = is.reply;
      change = is.change;
    }

replied-own : (s : Settings) (number : ℕ) (op : Op) (server : ℕ) (answer : Reply) (before after : PassView) (more : List Change) (adds : Adds before op server answer after)
    → before.settings ≡ s → number ≡ adds.number → IsRepliedIn s number (after.seen ++ more) (made_with (begun_by number op server) answer adds.at)
replied-own s number op server answer before after more adds settings same place is =
    let at = placed answer adds.at place is in
    let P : Settings → ℕ → ℕ → Type 0 = λ it own there. IsAnsweredAt it own op server answer there before.seen after.seen in
    let here : P s number place =
    subst (λ it. P it number place) settings
    (subst (λ it. P before.settings it place) (sym same) (subst (λ it. P before.settings adds.number it) at.1 (adds.decided at.0))) in
    replied-later s number op server answer place before.seen after.seen more here

-- ---- a record

calls-none : (number : ℕ) (pass : PassView) → MakesCalls number pass [] pass
calls-none number pass =
    record {
      makes = record { mine = sym (append-nil pass.mine); more = []; seen = sym (append-nil pass.seen); own = refl };
      replied = All-nil (IsRepliedIn pass.settings number pass.seen);
    }

-- a call, and then the others
calls-first : (number : ℕ) (op : Op) (server : ℕ) (answer : Reply) (old mid new : PassView) (calls : List Made) (adds : Adds old op server answer mid)
    → number ≡ adds.number → mid.settings ≡ old.settings → MakesCalls number mid calls new
    → MakesCalls number old (made_with (begun_by number op server) answer adds.at ∷ calls) new
calls-first number op server answer old mid new calls adds same settings behind =
    let one = made_with (begun_by number op server) answer adds.at in
    let mine : mid.mine ≡ old.mine ++ one ∷ [] =
    subst (λ it. mid.mine ≡ old.mine ++ made_with (begun_by it op server) answer adds.at ∷ []) (sym same) adds.mine in
    let own : made_by number adds.more ≡ changes_in number (one ∷ []) =
    subst (λ it. made_by it adds.more ≡ changes_in it (made_with (begun_by it op server) answer adds.at ∷ [])) (sym same) adds.own in
    let first : IsRepliedIn old.settings number new.seen one =
    subst (λ it. IsRepliedIn old.settings number it one) (sym behind.makes.seen)
    (replied-own old.settings number op server answer old mid behind.makes.more adds refl same) in
    record {
      makes = record {
        mine = behind.makes.mine ∙ ap (λ it. it ++ calls) mine ∙ append_assoc old.mine (one ∷ []) calls;
        more = adds.more ++ behind.makes.more;
        seen = behind.makes.seen ∙ ap (λ it. it ++ behind.makes.more) adds.seen ∙ append_assoc old.seen adds.more behind.makes.more;
        own = made_by-append number adds.more behind.makes.more
            ∙ (λ i. own i ++ behind.makes.own i) ∙ sym (changes_in-append number (one ∷ []) calls);
      };
      replied = All-cons (IsRepliedIn old.settings number new.seen) one calls first
          (subst (λ it. All (IsRepliedIn it number new.seen) calls) settings behind.replied);
    }

-- a record of a pass means what its items say
pub followed : (tracker : TrackerId) (old new : Seated) (items : List HealthItem) → IsOf tracker old
    → Lead (IsPassStep tracker) old items new → IsPassRecord tracker old items new
followed tracker old new [] of e =
    let P : Seated → Type 0 = λ at. IsPassRecord tracker old [] at in
    subst P (sym e)
    (record { of = of; state = refl; owned = refl; steps = omega arith; calls = []; are = refl; made = λ number idle. calls-none number old.pass })
followed tracker old new (Called op server answer ∷ items) of (mid, step, rest) =
    let behind = followed tracker mid new items step.of rest in
    let number = step.adds.number in
    record {
      of = behind.of;
      state = behind.state ∙ step.state;
      owned = behind.owned ∙ ap (owned_by items) step.owned;
      steps = omega (arith, behind.steps, step.steps);
      calls = made_with (begun_by number op server) answer step.adds.at ∷ behind.calls;
      are = (record { does = refl; on = refl; answered = refl }, behind.are);
      made = λ other idle.
          let same : other ≡ number = let states : Idle other ≡ Idle number = sym idle ∙ step.adds.idle in cc in
          let settings : mid.pass.settings ≡ old.pass.settings = step.of.settings ∙ sym of.settings in
          subst (λ it. MakesCalls other old.pass (made_with (begun_by it op server) answer step.adds.at ∷ behind.calls) new.pass) same
          (calls-first other op server answer old.pass mid.pass new.pass behind.calls step.adds same settings
          (behind.made other (step.state ∙ idle)));
    }
followed tracker old new (NoDuty server ∷ items) of (mid, step, rest) =
    let P : Seated → Type 0 = λ at. IsPassRecord tracker at items new in
    let at_old = subst P step.1 (followed tracker mid new items (subst (IsOf tracker) (sym step.1) of) rest) in
    record {
      of = at_old.of;
      state = at_old.state;
      owned = at_old.owned;
      steps = at_old.steps;
      calls = at_old.calls;
      are = at_old.are;
      made = at_old.made;
    }
