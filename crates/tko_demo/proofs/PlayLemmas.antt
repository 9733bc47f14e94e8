-- Exchanges one after another.
use Rattle.std.proofs.Common.{◌≡◌, ◌<◌, ◌∙◌, ℕ, List, [], ◌∷◌, ◌++◌, Result, Ok, Err, OnOk, flat_map, subst}
use Rattle.std.proofs.lemmas.List.{flat_map_more}
use Rattle.tko_io.specs.declared.io.Inlet.{Ghosts as InletGhosts}
use Rattle.tko_io.specs.declared.io.Outlet.{Ghosts as OutletGhosts}
use Rattle.tko_demo.specs.Exchanges.{asked_text, due_text}
use Rattle.tko_demo.specs.Playing.{HasAsked, HasNotPlayed, HasNotShown, HasPlayed, HasGotReply, IsShown}
use Rattle.tko_demo.specs.declared.exchange.Exchange.{Exchange}
use Rattle.tko_demo.specs.declared.fault.DemoFault.{DemoFault}
use Rattle.tko_demo.specs.declared.fault.DemoFault.TheVariants as fault
use Rattle.tko_demo.specs.declared.hearing.Heard.{Heard}
use Rattle.tko_demo.specs.declared.hearing.Heard.TheVariants as heard
use Rattle.tko_demo.specs.declared.playing.Caller.{Caller}

-- what went out for each of some items, and then for one more
pub one_more : {O A : Type 0} (takes : O → List ℕ → O → Type 0) (f : A → List ℕ)
    → ((x y z : O) (bytes more : List ℕ) → takes x bytes y → takes y more z → takes x (bytes ++ more) z)
    → (items all : List A) (item : A) (old middle new : O) → all ≡ items ++ item ∷ []
    → takes old (flat_map f items) middle → takes middle (f item) new → takes old (flat_map f all) new
one_more takes f goes_on items all item old middle new is front last =
    rw is (subst (λ text. takes old text new) (flat_map_more f [] items item)
    (goes_on old middle new (flat_map f items) (f item) front last))

pub shown_more : {O A : Type 0} (takes : O → List ℕ → O → Type 0) (failures : O → ℕ) (f : A → List ℕ)
    → ((x y z : O) (bytes more : List ℕ) → takes x bytes y → takes y more z → takes x (bytes ++ more) z)
    → (items all : List A) (item : A) (old middle new : O) → all ≡ items ++ item ∷ []
    → IsShown takes failures (flat_map f items) old middle → IsShown takes failures (f item) middle new
    → IsShown takes failures (flat_map f all) old new
shown_more takes failures f goes_on items all item old middle new is front last = record {
  went = one_more takes f goes_on items all item old middle new is front.went last.went;
  calm = last.calm ∙ front.calm;
}

-- one text and then another
pub shown_then : {O : Type 0} (takes : O → List ℕ → O → Type 0) (failures : O → ℕ) (text more : List ℕ)
    → ((x y z : O) (bytes more : List ℕ) → takes x bytes y → takes y more z → takes x (bytes ++ more) z)
    → (old middle new : O) → IsShown takes failures text old middle → IsShown takes failures more middle new
    → IsShown takes failures (text ++ more) old new
shown_then takes failures text more goes_on old middle new front last = record {
  went = goes_on old middle new text more front.went last.went;
  calm = last.calm ∙ front.calm;
}

module _ {I C : Type 0} (gives : I → List ℕ → I → Type 0) (takes : C → List ℕ → C → Type 0) (near far : List ℕ)
    (heard_on : (x y z : I) (bytes more : List ℕ) → gives x bytes y → gives y more z → gives x (bytes ++ more) z)
    (sent_on : (x y z : C) (bytes more : List ℕ) → takes x bytes y → takes y more z → takes x (bytes ++ more) z) where
  pub played_more : (items all : List Exchange) (item : Exchange) (old middle new : Caller I C)
      → all ≡ items ++ item ∷ [] → HasPlayed gives takes near far items old middle
      → HasGotReply gives takes near far item item middle new → HasPlayed gives takes near far all old new
  played_more items all item old middle new is front last = record {
    sent = one_more takes asked_text sent_on items all item old.outlet middle.outlet new.outlet is front.sent last.sent;
    came = one_more gives (due_text near far) heard_on items all item old.inlet middle.inlet new.inlet is front.came last.came;
  }

module _ {I C O : Type 0} (inlet : InletGhosts I) (outlet : OutletGhosts C) (near far : List ℕ) (failures : O → ℕ)
    (old middle new : O) (caller : Caller I C) where
  -- what could not be shown ends the exchanges
  pub show_fails : (reason : DemoFault) → HasNotShown failures old new reason
      → HasNotPlayed inlet outlet near far failures old new caller reason
  show_fails fault.Port is = absurd is
  show_fails fault.Thread is = absurd is
  show_fails fault.Reply is = absurd is
  show_fails fault.Read is = absurd is
  show_fails fault.Write is = is
  show_fails fault.Memory is = tt

  -- and so does memory that ran out
  pub memory_fails : (reason : DemoFault) → reason ≡ fault.Memory
      → HasNotPlayed inlet outlet near far failures old new caller reason
  memory_fails reason is = rw is tt

  -- what fails after something was shown fails after what was before
  pub later_fails : (reason : DemoFault) → failures middle ≡ failures old
      → HasNotPlayed inlet outlet near far failures middle new caller reason
      → HasNotPlayed inlet outlet near far failures old new caller reason
  later_fails fault.Port calm is = absurd is
  later_fails fault.Thread calm is = absurd is
  later_fails fault.Reply calm is = is
  later_fails fault.Read calm is = absurd is
  later_fails fault.Write calm is = subst (λ n. n < failures new) calm is
  later_fails fault.Memory calm is = tt

-- a fact at an Ok, whatever the result is, and what follows from one
pub on_ok : {T E : Type 0} (P : Type 0) (result : Result T E) → P → OnOk result P
on_ok P (Ok value) holds = holds
on_ok P (Err error) holds = tt

pub on_ok_so : {T E : Type 0} (P Q : Type 0) (result : Result T E) → (P → Q) → OnOk result P → OnOk result Q
on_ok_so P Q (Ok value) so holds = so holds
on_ok_so P Q (Err error) so holds = tt

module _ {I C : Type 0} (inlet : InletGhosts I) (outlet : OutletGhosts C) (near far : List ℕ) (asked other : Exchange)
    (old new : Caller I C) where
  -- the reply that is due was heard
  pub due_answered : (found : Heard) → found ≡ heard.Due → HasAsked inlet outlet near far asked other old found new
      → HasGotReply inlet.gives outlet.takes near far asked asked old new
  due_answered heard.Due is has = has
  due_answered heard.Other is has = absurd (cc)
  due_answered (heard.Wrong bytes) is has = absurd (cc)

  -- the other one was
  pub other_answered : (found : Heard) → found ≡ heard.Other → HasAsked inlet outlet near far asked other old found new
      → HasGotReply inlet.gives outlet.takes near far asked other old new
  other_answered heard.Due is has = absurd (cc)
  other_answered heard.Other is has = has
  other_answered (heard.Wrong bytes) is has = absurd (cc)
