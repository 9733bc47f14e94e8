-- What a request is answered over a store, and what it changes there.
use Rattle.std.specs.Prelude.{◌≡◌, ℕ, Bool, true, false, List, [], ◌++◌, codes, decimal, flat_map, Option, Some, None}
use Rattle.tko_text.specs.Requests.{fault_text}
use Rattle.tko_text.specs.Responses.{found_text}
use Rattle.tko_text.specs.declared.item.Item.{Item}
use Rattle.tko_text.specs.declared.item.Item.TheVariants as item
use Rattle.tko_text.specs.declared.request.Request.{Request}
use Rattle.tko_text.specs.declared.request.Request.TheVariants.{Get, Gets, Store, Cas, Delete, Incr, Decr, Touch, Version, Quit, StatsTko}
use Rattle.tko_text.specs.declared.response.body.Value.{Value}
use Rattle.tko_demo.specs.Effects.{cas_effect, count_effect, outcome_line, removal, storing, touching}
use Rattle.tko_demo.specs.Stores.{HasChanged, IsSameStore, kept_at}
use Rattle.tko_demo.specs.declared.effect.Count.TheVariants.{Up, Down}
use Rattle.tko_demo.specs.declared.effect.Effect.{Effect}
use Rattle.tko_demo.specs.declared.store.Kept.{Kept}
use Rattle.tko_demo.specs.declared.store.Store.{Store as Held}
use Rattle.tko_demo.specs.declared.values.Numbering.{Numbering}
use Rattle.tko_demo.specs.declared.values.Numbering.TheVariants.{Without, With}

-- what is stored under a key as a value
abbrev pub kept_value : List ℕ → Kept → Value
kept_value key kept =
    record { key = key; flags = kept.flags; «data» = kept.data; unique = Some kept.unique }

-- its cas number after the size of the data, or nothing
abbrev pub unique_text : Numbering → Kept → List ℕ
unique_text Without kept = []
unique_text With kept = codes " " ++ decimal kept.unique

-- the text of a key's value, where there is one
abbrev pub found_value : Numbering → List ℕ → Option Kept → List ℕ
found_value numbering key None = []
found_value numbering key (Some kept) =
    found_text (kept_value key kept) (unique_text numbering kept)

-- the values of these keys, one after another, and the line `END`
abbrev pub listing_text : Held → Numbering → List (List ℕ) → List ℕ
listing_text store numbering keys =
    flat_map (λ key. found_value numbering key (kept_at store key)) keys ++ codes "END\r\n"

-- nothing changed, and this was answered
abbrev pub OnlyAnswers : List ℕ → Held → List ℕ → Held → Type 0
OnlyAnswers text old out new = (out ≡ text) × IsSameStore old new

-- what a request with this effect is answered, if it asked for a reply
abbrev pub effect_text : Effect → (silent : Bool) → List ℕ
effect_text effect false = outcome_line effect.outcome
effect_text effect true = []

-- a request of this key had this effect, and was answered so
pub record HasEffect (key : List ℕ) (effect : Effect) (silent : Bool) (old : Held)
    (out : List ℕ) (new : Held) : Type 0 where
  pub answered : out ≡ effect_text effect silent
  pub changed : HasChanged key effect.change old new

-- a request was answered so, and changed the store so
abbrev pub AnswersRequest : Request → Held → List ℕ → Held → Type 0
AnswersRequest (Get keys) old out new = OnlyAnswers (listing_text old Without keys) old out new
AnswersRequest (Gets keys) old out new = OnlyAnswers (listing_text old With keys) old out new
AnswersRequest (Store verb entry silent) old out new =
    HasEffect entry.key (storing verb entry.flags entry.value (kept_at old entry.key)) silent
    old out new
AnswersRequest (Cas entry unique silent) old out new =
    HasEffect entry.key (cas_effect unique entry.flags entry.value (kept_at old entry.key)) silent
    old out new
AnswersRequest (Delete key silent) old out new =
    HasEffect key (removal (kept_at old key)) silent old out new
AnswersRequest (Incr key amount silent) old out new =
    HasEffect key (count_effect (Up amount) (kept_at old key)) silent old out new
AnswersRequest (Decr key amount silent) old out new =
    HasEffect key (count_effect (Down amount) (kept_at old key)) silent old out new
AnswersRequest (Touch key expiry silent) old out new =
    HasEffect key (touching (kept_at old key)) silent old out new
AnswersRequest Version old out new = OnlyAnswers (codes "VERSION demo\r\n") old out new
AnswersRequest Quit old out new = OnlyAnswers [] old out new
AnswersRequest StatsTko old out new = OnlyAnswers (codes "ERROR\r\n") old out new

-- an item was: a request, or a fault, which has its one reply
abbrev pub AnswersItem : Item → Held → List ℕ → Held → Type 0
AnswersItem (item.Request request) old out new = AnswersRequest request old out new
AnswersItem (item.Fault fault) old out new = OnlyAnswers (fault_text fault) old out new

-- what stands at the end of a buffer is this
pub record IsAtEnd (is : List ℕ → Type 0) (before after : List ℕ) : Type 0 where
  pub out : List ℕ
  pub longer : after ≡ before ++ out
  pub is_so : is out
