-- What holds of a result, by its two cases.
use Rattle.std.proofs.Common.{Result, Ok, Err}
use Rattle.std.specs.Prelude.{IfErr, IfOk, OnErr, OnOk}

-- a fact is one at an Err
pub on_err : {T E P : Type 0} (r : Result T E) → P → OnErr r P
on_err (Ok x) p = tt
on_err (Err e) p = p

-- what follows from a fact on the value of an Ok
pub if_ok : {A E : Type 0} {P : A → Type 0} {Q : A → Type 0} (r : Result A E) → IfOk r P
    → ((x : A) → P x → Q x) → IfOk r Q
if_ok (Ok x) p f = f x p
if_ok (Err e) p f = tt

-- what follows from a fact on the error
pub if_err : {A E : Type 0} {P : E → Type 0} {Q : E → Type 0} (r : Result A E) → IfErr r P
    → ((e : E) → P e → Q e) → IfErr r Q
if_err (Ok x) p f = tt
if_err (Err e) p f = f e p

-- two facts at an Ok give a third
pub both_ok : {T E A : Type 0} {P Q : T → Type 0} (r : Result T E) → OnOk r A → IfOk r P
    → ((x : T) → A → P x → Q x) → IfOk r Q
both_ok (Ok x) a p f = f x a p
both_ok (Err e) a p f = tt

-- what follows from a fact at an Ok
pub on_ok : {T E A B : Type 0} (r : Result T E) → OnOk r A → (A → B) → OnOk r B
on_ok (Ok x) a f = f a
on_ok (Err e) a f = tt

-- what follows from a fact on the value of an Ok, and does not name it
pub on_ok_if : {T E B : Type 0} {P : T → Type 0} (r : Result T E) → IfOk r P → ((x : T) → P x → B)
    → OnOk r B
on_ok_if (Ok x) p f = f x p
on_ok_if (Err e) p f = tt

-- what follows from a fact at an Err
pub on_errs : {T E A B : Type 0} (r : Result T E) → OnErr r A → (A → B) → OnErr r B
on_errs (Ok x) a f = tt
on_errs (Err e) a f = f a
