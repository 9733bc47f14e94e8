-- Laws of records: none is gained, one is, these are and then those.
use Rattle.std.proofs.Common.{◌≡◌, List, [], ◌∷◌, ◌++◌, refl, subst}
use Rattle.tko_model.specs.Records.{Lead, Gains}

pub gains_none : {S A : Type 0} {step : S → A → S → Type 0} (at : S) → Gains step at [] at
gains_none at = record { leads = refl }

pub gains_one : {S A : Type 0} {step : S → A → S → Type 0} {old new : S} {item : A}
    → step old item new → Gains step old (item ∷ []) new
gains_one {new} first = record { leads = (new, first, refl) }

lead_append : {S A : Type 0} (step : S → A → S → Type 0) (old mid new : S) (items others : List A)
    → Lead step old items mid → Lead step mid others new → Lead step old (items ++ others) new
lead_append {S} step old mid new [] others e leads =
    let P : S → Type 0 = λ s. Lead step s others new in subst P e leads
lead_append step old mid new (item ∷ items) others (next, first, rest) leads =
    (next, first, lead_append step next mid new items others rest leads)

pub gains_append : {S A : Type 0} {step : S → A → S → Type 0} {old mid new : S} {items others : List A}
    → Gains step old items mid → Gains step mid others new → Gains step old (items ++ others) new
gains_append {step} {old} {mid} {new} {items} {others} front back =
    record { leads = lead_append step old mid new items others front.leads back.leads }

pub gains_push : {S A : Type 0} {step : S → A → S → Type 0} {old mid new : S} {items : List A} {item : A}
    → Gains step old items mid → step mid item new → Gains step old (items ++ item ∷ []) new
gains_push front last = gains_append front (gains_one last)

-- the same for tactics: an equation says what the longer list is
pub gains_pushed : {S A : Type 0} {step : S → A → S → Type 0} {old mid new : S} {items all : List A} {item : A}
    → Gains step old items mid → step mid item new → all ≡ items ++ item ∷ [] → Gains step old all new
gains_pushed {S} {A} {step} {old} {new} front last e =
    let P : List A → Type 0 = λ list. Gains step old list new in rw e (gains_push front last)
