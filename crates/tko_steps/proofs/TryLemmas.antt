-- The tries of a call: what one more own step makes of the last look and of the number of lost tries.
use Rattle.std.proofs.Common.{is_some, ◌≡◌, ◌+◌, Bool, true, false, not, ◌&&◌, ◌||◌, List, ◌∷◌, Option, Some, None, refl, ◌∙◌, arith}
use Rattle.std.proofs.lemmas.Bool.{cond-false, cond-true}
use Rattle.tko_model.specs.declared.mark.Mark.{Mark}
use Rattle.tko_model.specs.declared.mark.Mark.TheVariants.{Up, Soft, Hard}
use Rattle.tko_model.specs.Settings.{Settings}
use Rattle.tko_steps.specs.declared.step.StepKind.{StepKind}
use Rattle.tko_steps.specs.declared.step.StepKind.TheVariants as kind
use Rattle.tko_steps.specs.declared.step.Place.{Place}
use Rattle.tko_steps.specs.declared.step.Word.{Word}
use Rattle.tko_steps.specs.Steps.{kind_of_exchange}
use Rattle.tko_steps.specs.Lost.{holds_after, holds_slot, is_exchange, is_give, is_look, last_look, loses_try, lost_tries, owes_slot, same_place}
use Rattle.tko_steps.specs.Runs.{OwnStep, StepTaken}

-- what holds of a count, a mark and an own step holds of each exchange of a server's word
pub by_exchange : (P : StepKind → Type 0) → P kind.Count → P kind.Mark → P kind.Own → (old new : Mark) → P (kind_of_exchange old new)
by_exchange P counts marks own (Up a) (Up b) = counts
by_exchange P counts marks own (Up a) (Soft b) = marks
by_exchange P counts marks own (Up a) (Hard b) = marks
by_exchange P counts marks own (Soft a) new = own
by_exchange P counts marks own (Hard a) new = own

pub exchange-not_look : (old new : Mark) → is_look (kind_of_exchange old new) ≡ false
exchange-not_look = by_exchange (λ it. is_look it ≡ false) refl refl refl

pub exchange-is_exchange : (old new : Mark) → is_exchange (kind_of_exchange old new) ≡ true
exchange-is_exchange = by_exchange (λ it. is_exchange it ≡ true) refl refl refl

pub exchange-no_give : (old new : Mark) → is_give (kind_of_exchange old new) ≡ false
exchange-no_give = by_exchange (λ it. is_give it ≡ false) refl refl refl

-- an exchange of a server's word leaves what the call holds
pub exchange-holds : (old new : Mark) (won held : Bool) → holds_after (kind_of_exchange old new) won held ≡ held
exchange-holds old new won held = by_exchange (λ it. holds_after it won held ≡ held) refl refl refl old new

or_false : (b : Bool) → (b || false) ≡ b
or_false true = refl
or_false false = refl

and_some : (b c : Bool) → c ≡ true → (b && c) ≡ b
and_some true c is = is
and_some false c is = refl

-- a step that is no look at a word that this try looked at loses its try exactly where it is lost
pub loses_try-change : (s : Settings) (step : StepTaken) (seen : Option Word) → is_look step.kind ≡ false → is_some seen ≡ true
    → loses_try s step seen ≡ not step.won
loses_try-change s step seen no_look looked =
    rw no_look (or_false (not step.won && is_some seen) ∙ and_some (not step.won) (is_some seen) looked)

module _ (s : Settings) (own : OwnStep) (older : List OwnStep) where
  abbrev loses : Bool
  loses = loses_try s own.step (last_look s own.step.place older)

  -- a step after which the try goes on
  pub last_look-here : (at : Place) → loses ≡ false → (is_look own.step.kind && same_place own.step.place at) ≡ true
      → last_look s at (own ∷ older) ≡ Some own.step.found
  last_look-here at goes_on here =
      cond-false _ _ _ goes_on ∙ cond-true _ _ _ here

  pub last_look-elsewhere : (at : Place) → loses ≡ false → (is_look own.step.kind && same_place own.step.place at) ≡ false
      → last_look s at (own ∷ older) ≡ last_look s at older
  last_look-elsewhere at goes_on there =
      cond-false _ _ _ goes_on ∙ cond-false _ _ _ there

  pub lost_tries-kept : loses ≡ false → is_give own.step.kind ≡ false → lost_tries s (own ∷ older) ≡ lost_tries s older
  lost_tries-kept goes_on no_give = rw (no_give, goes_on) (omega arith)

  -- a step that loses the try
  pub last_look-lost : (at : Place) → loses ≡ true → last_look s at (own ∷ older) ≡ None
  last_look-lost at lost = cond-true _ _ _ lost

  pub lost_tries-lost : loses ≡ true → is_give own.step.kind ≡ false → holds_slot older ≡ false → lost_tries s (own ∷ older) ≡ lost_tries s older + 1
  lost_tries-lost lost no_give none = rw (no_give, lost, none) refl

  -- a step that loses the try while the call holds a slot: the try is counted once that is given back
  pub lost_tries-held : loses ≡ true → is_give own.step.kind ≡ false → holds_slot older ≡ true → lost_tries s (own ∷ older) ≡ lost_tries s older
  lost_tries-held lost no_give held = rw (no_give, lost, held) (omega arith)

  pub owes_slot-held : loses ≡ true → is_give own.step.kind ≡ false → holds_slot older ≡ true → owes_slot s (own ∷ older) ≡ true
  owes_slot-held lost no_give held = rw (no_give, lost, held) refl

  pub lost_tries-given : is_give own.step.kind ≡ true → owes_slot s older ≡ true → lost_tries s (own ∷ older) ≡ lost_tries s older + 1
  lost_tries-given give owes = rw (give, owes) refl
