-- What a client of a server was answered.
use Rattle.std.specs.Prelude.{◌≡◌, ℕ, Bool, true, false, List}
use Rattle.tko_text.specs.Reading.{Reading, Emits, NeedsMore}
use Rattle.tko_text.specs.declared.fault.TextFault.TheVariants.{LineTooLong}
use Rattle.tko_text.specs.declared.item.Item.{Item}
use Rattle.tko_text.specs.declared.item.Item.TheVariants as item
use Rattle.tko_text.specs.declared.request.Request.TheVariants.{Quit}
use Rattle.tko_demo.specs.Answers.{AnswersItem, IsAtEnd}
use Rattle.tko_demo.specs.declared.store.Store.{Store}

-- how far a client is: the state of reading, whether it has asked to be left, the store, and what
-- is to be written to it
pub record Visited : Type 0 where
  pub reading : Reading
  pub is_over : Bool
  pub store : Store
  pub out : List ℕ

abbrev pub visit_state : Reading → Bool → Store → List ℕ → Visited
visit_state reading is_over store out =
    record { reading = reading; is_over = is_over; store = store; out = out }

-- after which item nothing more is read
abbrev pub is_last : Item → Bool
is_last (item.Request Quit) = true
is_last (item.Fault LineTooLong) = true
is_last other = false

-- the next item was read and answered
pub record ServesOne (old new : Visited) : Type 0 where
  pub asked : Item
  pub goes_on : old.is_over ≡ false
  pub read : Emits old.reading asked new.reading
  pub answers : IsAtEnd (λ out. AnswersItem asked old.store out new.store) old.out new.out
  pub over : new.is_over ≡ is_last asked

-- one was, or there is none yet and nothing changed
abbrev pub OneOrNone : Bool → Visited → Visited → Type 0
OneOrNone true old new = ServesOne old new
OneOrNone false old new = NeedsMore old.reading × (new ≡ old)

-- some items were, one after another
pub data Serves (old : Visited) : Visited → Type 0 where
  Nothing : Serves old old
  OneMore : (middle new : Visited) → Serves old middle → ServesOne middle new → Serves old new
