-- The story as a whole, and what follows it.
use Rattle.std.specs.Prelude.{◌<◌, ℕ, List, ◌++◌, codes, decimal}
use Rattle.tko_io.specs.declared.io.Inlet.{Ghosts as InletGhosts}
use Rattle.tko_io.specs.declared.io.Outlet.{Ghosts as OutletGhosts}
use Rattle.tko_demo.specs.Faults.{demo_address}
use Rattle.tko_demo.specs.Playing.{HasNotPlayed}
use Rattle.tko_demo.specs.Scenes.{HasPlayedScene, scene_text}
use Rattle.tko_demo.specs.declared.fault.DemoFault.{DemoFault}
use Rattle.tko_demo.specs.declared.fault.DemoFault.TheVariants as fault
use Rattle.tko_demo.specs.declared.playing.Caller.{Caller}
use Rattle.tko_demo.specs.declared.scene.Scene.TheVariants.{Started, Gone, Back}

-- the scenes as they are printed
abbrev pub story_text : List ℕ
story_text = (scene_text Started ++ scene_text Gone) ++ scene_text Back

-- the scenes were played, one after another
pub record HasPlayedStory {I C : Type 0} (gives : I → List ℕ → I → Type 0)
    (takes : C → List ℕ → C → Type 0) (near far : List ℕ) (old new : Caller I C) : Type 0 where
  pub after_start : Caller I C
  pub after_gone : Caller I C
  pub started : HasPlayedScene gives takes near far Started old after_start
  pub gone : HasPlayedScene gives takes near far Gone after_start after_gone
  pub back : HasPlayedScene gives takes near far Back after_gone new

-- why the story ends before its end: the server found no port or no thread when it was to come
-- back, or a scene ended
abbrev pub StoryFails : {I C O : Type 0} → InletGhosts I → OutletGhosts C → List ℕ → List ℕ
    → (O → ℕ) → O → O → Caller I C → DemoFault → Type 0
StoryFails inlet outlet near far failures from to caller fault.Port = Unit {0}
StoryFails inlet outlet near far failures from to caller fault.Thread = Unit {0}
StoryFails inlet outlet near far failures from to caller reason =
    HasNotPlayed inlet outlet near far failures from to caller reason

-- the output failed, where that is the reason; it is never the input
abbrev pub DisplayFails : {O : Type 0} → (O → ℕ) → O → O → DemoFault → Type 0
DisplayFails failures from to fault.Write = failures from < failures to
DisplayFails failures from to fault.Read = ⊥
DisplayFails failures from to other = Unit {0}

-- the input failed, or memory ran out
abbrev pub InputFails : {I : Type 0} → (I → ℕ) → I → I → DemoFault → Type 0
InputFails failures old new fault.Read = failures old < failures new
InputFails failures old new fault.Memory = Unit {0}
InputFails failures old new other = ⊥

-- the input or the output failed, where that is the reason
abbrev pub StayFails : {I O : Type 0} → (I → ℕ) → (O → ℕ) → I × O → I × O → DemoFault → Type 0
StayFails reads writes old new fault.Read = reads old.0 < reads new.0
StayFails reads writes old new reason = DisplayFails writes old.1 new.1 reason

-- what is printed where it stays, of a proxy at this port
abbrev pub stay_text : ℕ → List ℕ
stay_text port =
    codes "The proxy stays until standard input ends. In another terminal:\n  nc "
    ++ demo_address ++ codes " " ++ decimal port ++ codes "\n"

-- it was written where the proxy is, and then the input was read to its end
pub record StaysToEnd {I O : Type 0} (inlet : InletGhosts I) (takes : O → List ℕ → O → Type 0)
    (old new : I × O) : Type 0 where
  pub port : ℕ
  pub shown : takes old.1 (stay_text port) new.1
  pub ended : inlet.is_ended new.0
