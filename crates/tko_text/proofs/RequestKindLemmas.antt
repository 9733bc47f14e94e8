-- What a kind of request asks for, and that none which lists values has a single one.
use Rattle.std.proofs.Common.{◌≡◌, ◌∙◌, ℕ, List, Option, Some, None, sym}
use Rattle.tko_text.specs.declared.request.Request.{Request}
use Rattle.tko_text.specs.declared.response.Response.TheVariants as response
use Rattle.tko_text.specs.declared.response.body.Value.{Value}
use Rattle.tko_text.specs.declared.response.kind as code
use Rattle.tko_text.specs.declared.response.kind.SentKind.TheVariants as variant
use Rattle.tko_text.specs.ResponseKinds.{kind_seen}
use Rattle.tko_text.specs.Responses.{RequestKind, Retrieval, Listing, Storage, Deletion, Counting}
use Rattle.tko_text.specs.Responses.{Touching, Probe, Asks, Suits}
use Rattle.tko_text.specs.ResponseReads.{IsCutList, IsCutValue}
use Rattle.tko_text.specs.Responses.{request_kind}

-- a kind has a value exactly where it asked for it
pub asks_value : (kind : RequestKind) (value : Value)
    → Suits kind (response.Values (Some value)) → Asks kind value.key value.unique
asks_value (Retrieval key unique) value suits = suits
asks_value (Listing keys unique) value suits = suits
asks_value Storage value suits = suits
asks_value Deletion value suits = suits
asks_value Counting value suits = suits
asks_value Touching value suits = suits
asks_value Probe value suits = suits

pub suits_value : (kind : RequestKind) (value : Value)
    → Asks kind value.key value.unique → Suits kind (response.Values (Some value))
suits_value (Retrieval key unique) value asks = asks
suits_value (Listing keys unique) value asks = asks
suits_value Storage value asks = asks
suits_value Deletion value asks = asks
suits_value Counting value asks = asks
suits_value Touching value asks = asks
suits_value Probe value asks = asks

-- a request of this kind has one key at most
abbrev pub IsSingle : RequestKind → Type 0
IsSingle (Listing keys unique) = ⊥
IsSingle _ = Unit {0}

pub code_single : (kind : code.SentKind.SentKind) → IsSingle (kind_seen kind)
code_single (variant.Retrieval key unique) = tt
code_single variant.Storage = tt
code_single variant.Deletion = tt
code_single variant.Counting = tt
code_single variant.Touching = tt
code_single variant.Probe = tt

pub none_listed : (kind : RequestKind) (values : List Value) → IsSingle kind
    → Suits kind (response.Listed values) → ⊥
none_listed (Retrieval key unique) values single suits = suits
none_listed (Listing keys unique) values single suits = single
none_listed Storage values single suits = suits
none_listed Deletion values single suits = suits
none_listed Counting values single suits = suits
none_listed Touching values single suits = suits
none_listed Probe values single suits = suits

pub none_cut : (kind : RequestKind) (bytes : List ℕ) → IsSingle kind → IsCutList kind bytes → ⊥
none_cut (Retrieval key unique) bytes single cut = cut
none_cut (Listing keys unique) bytes single cut = single
none_cut Storage bytes single cut = cut
none_cut Deletion bytes single cut = cut
none_cut Counting bytes single cut = cut
none_cut Touching bytes single cut = cut
none_cut Probe bytes single cut = cut

-- a request that lists values has no single one
pub listed_alone : (kind : RequestKind) (values : List Value) (found : Option Value)
    → Suits kind (response.Listed values) → Suits kind (response.Values found) → ⊥
listed_alone (Retrieval key unique) values found lists suits = lists
listed_alone (Listing keys unique) values None lists suits = suits
listed_alone (Listing keys unique) values (Some value) lists suits = suits
listed_alone Storage values found lists suits = lists
listed_alone Deletion values found lists suits = lists
listed_alone Counting values found lists suits = lists
listed_alone Touching values found lists suits = lists
listed_alone Probe values found lists suits = lists

pub listed_uncut : (kind : RequestKind) (values : List Value) (bytes : List ℕ)
    → Suits kind (response.Listed values) → IsCutValue kind bytes → ⊥
listed_uncut (Retrieval key unique) values bytes lists cut = lists
listed_uncut (Listing keys unique) values bytes lists cut = cut.is_cut.asked
listed_uncut Storage values bytes lists cut = lists
listed_uncut Deletion values bytes lists cut = lists
listed_uncut Counting values bytes lists cut = lists
listed_uncut Touching values bytes lists cut = lists
listed_uncut Probe values bytes lists cut = lists

pub cut_list_is_no_value : (kind : RequestKind) (bytes : List ℕ) (value : Value)
    → Suits kind (response.Values (Some value)) → IsCutList kind bytes → ⊥
cut_list_is_no_value (Retrieval key unique) bytes value suits cut = cut
cut_list_is_no_value (Listing keys unique) bytes value suits cut = suits
cut_list_is_no_value Storage bytes value suits cut = cut
cut_list_is_no_value Deletion bytes value suits cut = cut
cut_list_is_no_value Counting bytes value suits cut = cut
cut_list_is_no_value Touching bytes value suits cut = cut
cut_list_is_no_value Probe bytes value suits cut = cut

-- a request has one kind
pub same_kind : (request : Request) (kind other : RequestKind)
    → request_kind request ≡ Some kind → request_kind request ≡ Some other → other ≡ kind
same_kind request kind other a b = let e : Some other ≡ Some kind = sym b ∙ a in cc
