-- Items emitted one after another.
use Rattle.std.proofs.Common.{List, [], ◌∷◌, ◌++◌, ℕ, refl, ap, subst}
use Rattle.tko_text.specs.declared.item.Item.{Item}
use Rattle.tko_text.specs.Reading.{Reading, fed, Emits, EmitsEach, Gives}
use Rattle.tko_text.proofs.CuttingLemmas.{Emits-fed}

pub Gives-none : (from : Reading) → Gives from [] from
Gives-none from = record { each = refl }

pub Gives-one : (from : Reading) (emitted : Item) (to : Reading) → Emits from emitted to → Gives from (emitted ∷ []) to
Gives-one from emitted to emits = record { each = (to, emits, refl) }

-- one more item at the front
pub Gives-cons : (from : Reading) (emitted : Item) (mid : Reading) (items : List Item) (to : Reading)
    → Emits from emitted mid → Gives mid items to → Gives from (emitted ∷ items) to
Gives-cons from emitted mid items to emits gives = record { each = (mid, emits, gives.each) }

each_append : (from : Reading) (items : List Item) (mid : Reading) (more : List Item) (to : Reading)
    → EmitsEach from items mid → EmitsEach mid more to → EmitsEach from (items ++ more) to
each_append from [] mid more to v w = subst (λ r. EmitsEach r more to) v w
each_append from (emitted ∷ items) mid more to (next, emits, v) w =
    (next, emits, each_append next items mid more to v w)

pub Gives-append : (from : Reading) (items : List Item) (mid : Reading) (more : List Item) (to : Reading)
    → Gives from items mid → Gives mid more to → Gives from (items ++ more) to
Gives-append from items mid more to v w = record { each = each_append from items mid more to v.each w.each }

-- one more item at the end
pub Gives-push : (from : Reading) (items : List Item) (mid : Reading) (emitted : Item) (to : Reading)
    → Gives from items mid → Emits mid emitted to → Gives from (items ++ emitted ∷ []) to
Gives-push from items mid emitted to v emits =
    Gives-append from items mid (emitted ∷ []) to v (Gives-one mid emitted to emits)

each_fed : (from : Reading) (items : List Item) (to : Reading) (piece : List ℕ)
    → EmitsEach from items to → EmitsEach (fed from piece) items (fed to piece)
each_fed from [] to piece v = ap (λ r. fed r piece) v
each_fed from (emitted ∷ items) to piece (mid, emits, v) =
    (fed mid piece, Emits-fed from emitted mid piece emits, each_fed mid items to piece v)

-- feeding commutes with telling one item after another
pub Gives-fed : (from : Reading) (items : List Item) (to : Reading) (piece : List ℕ)
    → Gives from items to → Gives (fed from piece) items (fed to piece)
Gives-fed from items to piece v = record { each = each_fed from items to piece v.each }
