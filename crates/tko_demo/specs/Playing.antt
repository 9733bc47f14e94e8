-- What the client sent and got.
use Rattle.std.specs.Prelude.{◌≡◌, ◌<◌, ◌≢◌, ◌⊎◌, ℕ, List, flat_map}
use Rattle.tko_io.specs.declared.io.Inlet.{Ghosts as InletGhosts}
use Rattle.tko_io.specs.declared.io.Outlet.{Ghosts as OutletGhosts}
use Rattle.tko_demo.specs.Exchanges.{asked_text, due_text}
use Rattle.tko_demo.specs.Hearing.{IsWrong}
use Rattle.tko_demo.specs.declared.exchange.Exchange.{Exchange}
use Rattle.tko_demo.specs.declared.exchange.Exchange.TheVariants.{Marked, Unmarked}
use Rattle.tko_demo.specs.declared.fault.DemoFault.{DemoFault}
use Rattle.tko_demo.specs.declared.fault.DemoFault.TheVariants as fault
use Rattle.tko_demo.specs.declared.hearing.Heard.{Heard}
use Rattle.tko_demo.specs.declared.hearing.Heard.TheVariants as heard
use Rattle.tko_demo.specs.declared.playing.Caller.{Caller}

module _ {I C : Type 0} (gives : I → List ℕ → I → Type 0) (takes : C → List ℕ → C → Type 0)
    (near far : List ℕ) where
  -- the request of an exchange was sent, and the reply of this one was read, and nothing else
  pub record HasGotReply (asked got : Exchange) (old new : Caller I C) : Type 0 where
    pub sent : takes old.outlet (asked_text asked) new.outlet
    pub came : gives old.inlet (due_text near far got) new.inlet

  -- the requests of these exchanges were sent, and the replies that are due were read, and nothing
  -- else
  pub record HasPlayed (exchanges : List Exchange) (old new : Caller I C) : Type 0 where
    pub sent : takes old.outlet (flat_map asked_text exchanges) new.outlet
    pub came : gives old.inlet (flat_map (due_text near far) exchanges) new.inlet

  -- it was asked some times for the marks: the server was marked, until it was not
  pub data HasWaited : Caller I C → Caller I C → Type 0 where
    Now : (old new : Caller I C) → HasGotReply Unmarked Unmarked old new → HasWaited old new
    Later : (old middle new : Caller I C) → HasGotReply Unmarked Marked old middle
        → HasWaited middle new → HasWaited old new

module _ {I C : Type 0} (inlet : InletGhosts I) (outlet : OutletGhosts C) (near far : List ℕ) where
  -- which reply came to the request of an exchange, or that it could not be sent
  abbrev pub HasAsked : Exchange → Exchange → Caller I C → Heard → Caller I C → Type 0
  HasAsked asked other old heard.Due new =
      HasGotReply inlet.gives outlet.takes near far asked asked old new
  HasAsked asked other old heard.Other new =
      HasGotReply inlet.gives outlet.takes near far asked other old new
  HasAsked asked other old (heard.Wrong bytes) new =
      (outlet.failures old.outlet < outlet.failures new.outlet)
      ⊎ IsWrong inlet (due_text near far asked) (due_text near far other)
      old.inlet bytes.items new.inlet

  -- the last reply was not one that may come
  pub data HasWrongReply (new : Caller I C) : Type 0 where
    Wrong : (asked other : Exchange) (from : Caller I C) (found : Heard)
        → HasAsked asked other from found new → found ≢ heard.Due → found ≢ heard.Other
        → HasWrongReply new

  -- why the exchanges end: a reply, an output that failed, or memory
  abbrev pub HasNotPlayed : {O : Type 0} → (O → ℕ) → O → O → Caller I C → DemoFault → Type 0
  HasNotPlayed failures old new caller fault.Reply = HasWrongReply caller
  HasNotPlayed failures old new caller fault.Memory = Unit {0}
  HasNotPlayed failures old new caller fault.Write = failures old < failures new
  HasNotPlayed failures old new caller _ = ⊥

-- this text was written, and the output did not fail
pub record IsShown {O : Type 0} (takes : O → List ℕ → O → Type 0) (failures : O → ℕ)
    (text : List ℕ) (old new : O) : Type 0 where
  pub went : takes old text new
  pub calm : failures new ≡ failures old

-- the output failed, or memory ran out
abbrev pub HasNotShown : {O : Type 0} → (O → ℕ) → O → O → DemoFault → Type 0
HasNotShown failures old new fault.Memory = Unit {0}
HasNotShown failures old new fault.Write = failures old < failures new
HasNotShown failures old new _ = ⊥
