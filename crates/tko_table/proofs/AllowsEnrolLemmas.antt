-- What an enrolment owes, and what the passes of one seat have seen.
use Rattle.std.proofs.Common.{◌≡◌, ℕ, zero, suc, ◌+◌, ◌%◌, ◌^◌, ◌<◌, List, [], ◌∷◌, ◌++◌, length}
use Rattle.std.proofs.Common.{get_or, All, refl, sym, ap, ◌∙◌, subst, arith}
use Rattle.std.proofs.lemmas.List.Elements.{All-cons, All-head, All-nil, All-tail}
use mathlib.Core.Option.{some, some-injective, some-ne-none}
use lib.ListN.{get_elem?}
use Rattle.atomic_table.specs.Table.{Allows, keeps}
use Rattle.tko_model.specs.Settings.{Settings}
use Rattle.tko_table.specs.declared.pass.PassView.{PassView}
use Rattle.tko_table.specs.History.{Begins}
use Rattle.tko_table.specs.Passes.{HasItsChanges, count_enrolled, enrolled_pass}
use Rattle.tko_table.specs.Rule.{core_in, enrolment_place, joined_passes}
use Rattle.tko_table.specs.Enrolments.{Enrolled}
use Rattle.tko_table.proofs.AllowsLemmas.{Rule, Seat}
use Rattle.tko_table.proofs.EnrolLemmas.{drawn-alone, first-open}
use Rattle.tko_table.proofs.EnrolRuleLemmas.{core-enrols, enrol-kept, few, fewer, one}

pub All-left : (P : PassView → Type 0) (one other : List PassView) → All P (one ++ other)
    → All P one
All-left P [] other all = All-nil P
All-left P (pass ∷ one) other all =
    All-cons P pass one (All-head P pass (one ++ other) all)
    (All-left P one other (All-tail P pass (one ++ other) all))

pub All-right : (P : PassView → Type 0) (one other : List PassView) → All P (one ++ other)
    → All P other
All-right P [] other all = all
All-right P (pass ∷ one) other all = All-right P one other (All-tail P pass (one ++ other) all)

-- the passes of one seat have seen beginnings of the history
pub seen-view : (P : PassView → Type 0) (views : List (List PassView)) (id : ℕ)
    (view : List PassView) → get_elem? views id ≡ some view
    → All P (joined_passes views) → All P view
seen-view P [] id view e all = absurd (some-ne-none view (sym e))
seen-view P (first ∷ views) zero view e all =
    subst (All P) (some-injective first view e) (All-left P first (joined_passes views) all)
seen-view P (first ∷ views) (suc id) view e all =
    seen-view P views id view e (All-right P first (joined_passes views) all)

-- an enrolment
pub allows-enrol : (s : Settings) (slots id : ℕ) (me : Seat) → count_enrolled me.0 < length me.0
    → Allows (Rule s) slots id me enrolment_place (λ n. (n + 1) % 2 ^ 64)
    (λ found new. Enrolled me found new × (new.1 ≡ me.1))
allows-enrol s slots id me some_wait state kept homes at fits =
    let first = first-open me.0 some_wait in
    let there : get_elem? state.views id ≡ some (first.earlier ++ first.pass ∷ first.later) = at
    ∙ ap some first.was in
    let number = get_or state.words enrolment_place 0 in
    let few_drawn = few s state.words state.views id first.earlier first.later first.pass kept there
    first.waits in
    let next : (number + 1) % 2 ^ 64 ≡ number + 1 = omega (arith, few_drawn) in
    let same_settings = λ (pass : PassView) (rest : List PassView) (is : me.0 ≡ pass ∷ rest).
    All-head (λ (at : PassView). at.settings ≡ s) pass rest
    (subst (All (λ (at : PassView). at.settings ≡ s)) is
    (seen-view (λ (at : PassView). at.settings ≡ s) state.views id me.0 at kept.core.settings)) in (
      first.earlier ++ enrolled_pass first.pass number kept.history ∷ first.later,
      keeps,
      tt,
      enrol-kept s state.words state.views id first.earlier first.later first.pass kept there
          first.waits ((number + 1) % 2 ^ 64) next,
      (
        record {
          history = kept.history;
          few = fewer s state.words state.views id first.earlier first.later first.pass kept there
              first.waits;
          begins = seen-view (λ (at : PassView). Begins at.seen kept.history) state.views id
              me.0 at kept.told.seen;
          drew = sym (first.enrols number kept.history);
          core = core_in s state.words (joined_passes state.views);
          enrols = core-enrols s state.words state.views id first.earlier first.later first.pass
              kept there first.waits;
          settings = seen-view
              (λ (at : PassView). at.settings ≡ s) state.views id me.0 at kept.core.settings;
          replays = kept.told.replays;
          made = seen-view (HasItsChanges kept.history) state.views id me.0 at kept.told.mine;
          drawn = kept.told.drawn;
          all = λ pass rest is long.
              drawn-alone s state.words state.views id me.0
              kept at (long ∙ ap (λ (it : Settings). it.threads) (same_settings pass rest is));
        },
        refl,
      ),
    )
