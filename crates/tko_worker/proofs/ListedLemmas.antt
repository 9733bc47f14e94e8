-- Who is to be served: a client that does not rest is in a list.
use Rattle.std.proofs.Common.{◌≡◌, ◌≢◌, ◌⊎◌, ℕ, List, [], ◌∷◌, ◌++◌, refl, sym, subst, ◌∙◌, inl}
use Rattle.std.proofs.Common.{inr, Option}
use Rattle.std.proofs.lemmas.Bool.{cases_eq}
use Rattle.tko_text.specs.declared.request.Request.{Request}
use Rattle.tko_mux.specs.declared.client.Client.{Client}
use Rattle.tko_mux.specs.Muxes.{MuxState}
use Rattle.tko_port.specs.declared.guest.Guest.{Guest}
use Rattle.tko_port.specs.declared.guest.SharedParts.{SharedParts}
use Rattle.tko_worker.specs.Numbers.{IsAmong, IsIn}
use Rattle.tko_worker.specs.Workers.{IsNotedToServe, IsNumberServed, NobodyForgotten, OthersStay}
use Rattle.tko_worker.specs.Workers.{RestAt, Rests, Sight}
use Rattle.tko_worker.proofs.NumbersLemmas.{among_it, in_among}

-- all others rest as before, or are to be served as before
others_known : {L T : Type 0} (sight : Sight L T) (old new : List (Option (Client (Guest L T))))
    (number other : ℕ) (touched left spent after now_spent : List ℕ) → other ≢ number
    → OthersStay number old new
    → ((it : ℕ) → it ≢ number → IsIn it touched ⊎ IsIn it spent → IsIn it left ⊎ IsIn it after)
    → ((it : ℕ) → IsIn it after → IsIn it now_spent)
    → RestAt sight old other ⊎ (IsIn other touched ⊎ IsIn other spent)
    → RestAt sight new other ⊎ (IsIn other left ⊎ IsIn other now_spent)
others_known sight old new number other touched left spent after now_spent apart stay moved more
    (inl rests) =
    inl (subst (Rests sight) (sym (stay other apart)) rests)
others_known sight old new number other touched left spent after now_spent apart stay moved more
    (inr is) =
    elim (moved other apart is) [
      | inl here ↦ inr (inl here)
      | inr there ↦ inr (inr (more other there))
    ]

-- those that were put off still are, once one was served
still_off : {L T P : Type 0} (sight : Sight L T) (asks_for : Guest L T → Option Request)
    (old new : MuxState (Guest L T) (SharedParts P)) (number due : ℕ) (after now_spent : List ℕ)
    → IsNumberServed sight asks_for old number due new after now_spent
    → (it : ℕ) → IsIn it after → IsIn it now_spent
still_off sight asks_for old new number due after now_spent (inl rests) it is =
    subst (IsIn it) (sym rests.1) is
still_off sight asks_for old new number due after now_spent (inr served) it is =
    in_among number it after now_spent served.1 is

-- the one that was served rests, or was put off
it_known : {L T P : Type 0} (sight : Sight L T) (asks_for : Guest L T → Option Request)
    (old new : MuxState (Guest L T) (SharedParts P)) (number due : ℕ)
    (left after now_spent : List ℕ)
    → IsNumberServed sight asks_for old number due new after now_spent
    → RestAt sight new.roster.slots number ⊎ (IsIn number left ⊎ IsIn number now_spent)
it_known sight asks_for old new number due left after now_spent (inl rests) = inl rests.0
it_known sight asks_for old new number due left after now_spent (inr served) =
    inr (inr (among_it number after now_spent served.1))

-- once a number was taken from where it waited, and was served, nobody is forgotten
pub one_served : {L T P : Type 0} (sight : Sight L T) (asks_for : Guest L T → Option Request)
    (old new : MuxState (Guest L T) (SharedParts P)) (number due : ℕ)
    (touched left spent after now_spent : List ℕ)
    → NobodyForgotten sight old.roster.slots touched spent
    → ((it : ℕ) → it ≢ number → IsIn it touched ⊎ IsIn it spent → IsIn it left ⊎ IsIn it after)
    → OthersStay number old.roster.slots new.roster.slots
    → IsNumberServed sight asks_for old number due new after now_spent
    → NobodyForgotten sight new.roster.slots left now_spent
one_served sight asks_for old new number due touched left spent after now_spent nobody moved stay
    served other =
    elim (cases_eq other number) [
      | inl me ↦
          subst (λ n. RestAt sight new.roster.slots n ⊎ (IsIn n left ⊎ IsIn n now_spent)) (sym me)
          (it_known sight asks_for old new number due left after now_spent served)
      | inr apart ↦
          others_known sight old.roster.slots new.roster.slots number other touched left spent
          after now_spent apart stay moved
          (still_off sight asks_for old new number due after now_spent served) (nobody other)
    ]

-- the first of those that are to be served, or of those that were put off, was taken
pub touched_taken : (number : ℕ) (left spent : List ℕ) (it : ℕ) → it ≢ number
    → IsIn it (number ∷ left) ⊎ IsIn it spent → IsIn it left ⊎ IsIn it spent
touched_taken number left spent it apart (inl (inl me)) = absurd (apart (sym me))
touched_taken number left spent it apart (inl (inr is)) = inl is
touched_taken number left spent it apart (inr is) = inr is

pub put_off_taken : (number : ℕ) (touched after : List ℕ) (it : ℕ) → it ≢ number
    → IsIn it touched ⊎ IsIn it (number ∷ after) → IsIn it touched ⊎ IsIn it after
put_off_taken number touched after it apart (inl is) = inl is
put_off_taken number touched after it apart (inr (inl me)) = absurd (apart (sym me))
put_off_taken number touched after it apart (inr (inr is)) = inr is

listed_known : {L T : Type 0} (sight : Sight L T) (old new : List (Option (Client (Guest L T))))
    (number other : ℕ) (touched now_touched spent : List ℕ) → other ≢ number
    → OthersStay number old new → ((it : ℕ) → IsIn it touched → IsIn it now_touched)
    → RestAt sight old other ⊎ (IsIn other touched ⊎ IsIn other spent)
    → RestAt sight new other ⊎ (IsIn other now_touched ⊎ IsIn other spent)
listed_known sight old new number other touched now_touched spent apart stay more (inl rests) =
    inl (subst (Rests sight) (sym (stay other apart)) rests)
listed_known sight old new number other touched now_touched spent apart stay more (inr (inl is)) =
    inr (inl (more other is))
listed_known sight old new number other touched now_touched spent apart stay more (inr (inr is)) =
    inr (inr is)

-- the one that was noted is to be served, or waits among those that were put off, or rests
noted_known : {L T : Type 0} (sight : Sight L T) (new : List (Option (Client (Guest L T))))
    (number : ℕ) (touched now_touched spent : List ℕ)
    → IsNotedToServe sight new number spent touched now_touched
    → RestAt sight new number ⊎ (IsIn number now_touched ⊎ IsIn number spent)
noted_known sight new number touched now_touched spent (inl (inl rests, same)) = inl rests
noted_known sight new number touched now_touched spent (inl (inr is, same)) = inr (inr is)
noted_known sight new number touched now_touched spent (inr is) =
    inr (inl (among_it number touched now_touched is))

still_touched : {L T : Type 0} (sight : Sight L T) (new : List (Option (Client (Guest L T))))
    (number : ℕ) (touched now_touched spent : List ℕ)
    → IsNotedToServe sight new number spent touched now_touched
    → (it : ℕ) → IsIn it touched → IsIn it now_touched
still_touched sight new number touched now_touched spent (inl stays) it is =
    subst (IsIn it) (sym stays.1) is
still_touched sight new number touched now_touched spent (inr among) it is =
    in_among number it touched now_touched among is

-- once a number was noted as one that is to be served, nobody is forgotten
pub one_listed : {L T : Type 0} (sight : Sight L T)
    (old mid new : List (Option (Client (Guest L T))))
    (number : ℕ) (touched now_touched spent : List ℕ) → NobodyForgotten sight old touched spent
    → OthersStay number old mid → OthersStay number mid new
    → IsNotedToServe sight new number spent touched now_touched
    → NobodyForgotten sight new now_touched spent
one_listed sight old mid new number touched now_touched spent nobody first second noted other =
    elim (cases_eq other number) [
      | inl me ↦
          subst (λ n. RestAt sight new n ⊎ (IsIn n now_touched ⊎ IsIn n spent)) (sym me)
          (noted_known sight new number touched now_touched spent noted)
      | inr apart ↦
          listed_known sight old new number other touched now_touched spent apart
          (λ it ne. second it ne ∙ first it ne)
          (still_touched sight new number touched now_touched spent noted) (nobody other)
    ]
