-- Releases of one server after another.
use Rattle.std.proofs.Common.{◌≡◌, ℕ, ◌+◌, List, All, [], ◌∷◌, ◌++◌, ap, arith, length, refl, subst, sym, zero-add, ◌∙◌}
use Rattle.std.proofs.lemmas.Grind.{length_at_push}
use Rattle.std.proofs.lemmas.List.Elements.{All-cons, All-nil}
use Rattle.tko_model.specs.declared.mark.Op.TheVariants.{Release}
use Rattle.tko_model.specs.declared.mark.Reply.{Reply}
use Rattle.tko_model.specs.Records.{Called, Gains, HealthItem}
use Rattle.tko_model.proofs.RecordLemmas.{gains_none, gains_push}
use Rattle.tko_health.specs.Seating.{IsReleaseItem, ReleasesMarks}
use Rattle.tko_threads.specs.Leaving.{ReleasesEach, releases_from}

releases_from-push : (server at : ℕ) (answers : List Reply) (answer : Reply) → server + length answers ≡ at
    → releases_from server (answers ++ answer ∷ []) ≡ releases_from server answers ++ Called Release at answer ∷ []
releases_from-push server at [] answer is =
    let same : server ≡ at = omega (arith, is) in ap (λ (n : ℕ). Called Release n answer ∷ []) same
releases_from-push server at (first ∷ answers) answer is =
    let next : server + 1 + length answers ≡ at = omega (arith, is) in
    ap (λ (its : List HealthItem). Called Release server first ∷ its) (releases_from-push (server + 1) at answers answer next)

are_releases : (server : ℕ) (answers : List Reply) → All IsReleaseItem (releases_from server answers)
are_releases server [] = All-nil IsReleaseItem
are_releases server (answer ∷ answers) =
    All-cons IsReleaseItem (Called Release server answer) (releases_from (server + 1) answers)
    (record { server = server; answer = answer; is = refl }) (are_releases (server + 1) answers)

module _ {W : Type 0} {steps : W → HealthItem → W → Type 0} where
  pub each_none : (at : W) → ReleasesEach steps 0 at at
  each_none at = record { answers = []; each = refl; gains = gains_none at }

  pub each_more : {count : ℕ} {old mid new : W} {answer : Reply} → ReleasesEach steps count old mid
      → steps mid (Called Release count answer) new → ReleasesEach steps (count + 1) old new
  each_more {count} {old} {mid} {new} {answer} made step = record {
    answers = made.answers ++ answer ∷ [];
    each = (length_at_push made.answers answer).1 ∙ ap (λ (n : ℕ). n + 1) made.each;
    gains = subst (λ (its : List HealthItem). Gains steps old its new)
        (sym (releases_from-push 0 count made.answers answer (zero-add (length made.answers) ∙ made.each))) (gains_push made.gains step);
  }

  -- they are releases, and nothing else
  pub released_each : {count : ℕ} {old new : W} → ReleasesEach steps count old new → ReleasesMarks steps old new
  released_each made = record { items = releases_from 0 made.answers; each = are_releases 0 made.answers; gains = made.gains }
