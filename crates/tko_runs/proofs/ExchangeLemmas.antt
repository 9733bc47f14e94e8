-- Exchanges of a server's word: what one that wins or loses leaves.
use Rattle.std.proofs.Common.{◌≡◌, ℕ, true, false, cond, Some, inl, inr, refl}
use Rattle.tko_model.specs.declared.mark.Mark.{Mark}
use Rattle.tko_model.specs.declared.mark.Mark.TheVariants.{Up, Soft, Hard}
use Rattle.tko_model.specs.Settings.{Settings}
use Rattle.tko_model.specs.declared.state.ServerState.{ServerState}
use Rattle.tko_runs.specs.States.{wrote}
use Rattle.tko_runs.specs.Words.{CanLeaveServer, IsWonExchange}
use Rattle.tko_steps.specs.declared.step.Word.{Word}
use Rattle.tko_steps.specs.Core.{is_call_step}
use Rattle.tko_steps.specs.Owners.{owner_of}
use Rattle.tko_steps.specs.Lost.{same_word}
use Rattle.tko_steps.specs.Steps.{kind_of_exchange}

pub exchange-steps : (old new : Mark) → is_call_step (kind_of_exchange old new) ≡ true
exchange-steps (Up a) (Up b) = refl
exchange-steps (Up a) (Soft b) = refl
exchange-steps (Up a) (Hard b) = refl
exchange-steps (Soft a) new = refl
exchange-steps (Hard a) new = refl

pub exchange-wrote : (old new : Mark) (found left : Word)
    → wrote (kind_of_exchange old new) found left ≡ cond (same_word left found) false true
exchange-wrote (Up a) (Up b) found left = refl
exchange-wrote (Up a) (Soft b) found left = refl
exchange-wrote (Up a) (Hard b) found left = refl
exchange-wrote (Soft a) new found left = refl
exchange-wrote (Hard a) new found left = refl

pub exchange-won : (s : Settings) (held : ℕ) (old new : Mark) (found left : ServerState)
    → IsWonExchange s held (kind_of_exchange old new) found left
    → CanLeaveServer s held (kind_of_exchange old new) found left
exchange-won s held (Up a) (Up b) found left is = inr is
exchange-won s held (Up a) (Soft b) found left is = inr is
exchange-won s held (Up a) (Hard b) found left is = inr is
exchange-won s held (Soft a) new found left is = is
exchange-won s held (Hard a) new found left is = is

pub exchange-lost : (s : Settings) (held : ℕ) (old new : Mark) (found : ServerState)
    → ((owner : ℕ) → owner_of old ≡ Some owner → ⊥)
    → CanLeaveServer s held (kind_of_exchange old new) found found
exchange-lost s held (Up a) (Up b) found none = inl refl
exchange-lost s held (Up a) (Soft b) found none = inl refl
exchange-lost s held (Up a) (Hard b) found none = inl refl
exchange-lost s held (Soft a) new found none = absurd (none a refl)
exchange-lost s held (Hard a) new found none = absurd (none a refl)
