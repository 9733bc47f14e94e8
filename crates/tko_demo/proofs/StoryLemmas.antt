-- What `demo` shows, and why it ends before its end.
use Rattle.std.proofs.Common.{◌≡◌, ◌<◌, ℕ, List, ◌++◌, subst}
use Rattle.tko_io.specs.declared.io.Inlet.{Ghosts as InletGhosts}
use Rattle.tko_io.specs.declared.io.Outlet.{Ghosts as OutletGhosts}
use Rattle.tko_demo.proofs.PlayLemmas.{later_fails, shown_then}
use Rattle.tko_demo.specs.Faults.{IsUnavailable}
use Rattle.tko_demo.specs.Playing.{HasNotPlayed, HasNotShown, IsShown}
use Rattle.tko_demo.specs.Scenes.{scene_text}
use Rattle.tko_demo.specs.declared.fault.DemoFault.{DemoFault}
use Rattle.tko_demo.specs.declared.fault.DemoFault.TheVariants as fault
use Rattle.tko_demo.specs.declared.playing.Caller.{Caller}
use Rattle.tko_demo.specs.declared.scene.Scene.TheVariants.{Started, Gone, Back}
use Rattle.tko_demo.specs.Stories.{StayFails, DisplayFails, InputFails, StoryFails, story_text}

-- the scenes one after another are the story
pub story_shown : {O : Type 0} (takes : O → List ℕ → O → Type 0) (failures : O → ℕ)
    → ((x y z : O) (bytes more : List ℕ) → takes x bytes y → takes y more z → takes x (bytes ++ more) z)
    → (old first second new : O) → IsShown takes failures (scene_text Started) old first
    → IsShown takes failures (scene_text Gone) first second
    → IsShown takes failures (scene_text Back) second new → IsShown takes failures story_text old new
story_shown takes failures goes_on old first second new one two three =
    shown_then takes failures (scene_text Started ++ scene_text Gone) (scene_text Back) goes_on old second new
    (shown_then takes failures (scene_text Started) (scene_text Gone) goes_on old first second one two) three

module _ {I C O : Type 0} (inlet : InletGhosts I) (outlet : OutletGhosts C) (near far : List ℕ) (failures : O → ℕ)
    (old new : O) (caller : Caller I C) where
  -- a scene that ends ends the story
  pub scene_fails : (reason : DemoFault) → HasNotPlayed inlet outlet near far failures old new caller reason
      → StoryFails inlet outlet near far failures old new caller reason
  scene_fails fault.Port is = tt
  scene_fails fault.Thread is = tt
  scene_fails fault.Reply is = is
  scene_fails fault.Read is = is
  scene_fails fault.Write is = is
  scene_fails fault.Memory is = is

  -- and so does a server that cannot come back
  pub server_lacks : (reason : DemoFault) → IsUnavailable reason
      → StoryFails inlet outlet near far failures old new caller reason
  server_lacks fault.Port is = tt
  server_lacks fault.Thread is = tt
  server_lacks fault.Reply is = absurd is
  server_lacks fault.Read is = absurd is
  server_lacks fault.Write is = absurd is
  server_lacks fault.Memory is = tt

  -- what is known of the output then
  pub story_displays : (reason : DemoFault) → StoryFails inlet outlet near far failures old new caller reason
      → DisplayFails failures old new reason
  story_displays fault.Port is = tt
  story_displays fault.Thread is = tt
  story_displays fault.Reply is = tt
  story_displays fault.Read is = absurd is
  story_displays fault.Write is = is
  story_displays fault.Memory is = tt

-- a scene that ends after others
pub later_scene_fails : {I C O : Type 0} (inlet : InletGhosts I) (outlet : OutletGhosts C) (near far : List ℕ)
    (failures : O → ℕ) (old middle new : O) (caller : Caller I C) (reason : DemoFault)
    → failures middle ≡ failures old → HasNotPlayed inlet outlet near far failures middle new caller reason
    → StoryFails inlet outlet near far failures old new caller reason
later_scene_fails inlet outlet near far failures old middle new caller reason calm is =
    scene_fails inlet outlet near far failures old new caller reason
    (later_fails inlet outlet near far failures old middle new caller reason calm is)

module _ {O : Type 0} (failures : O → ℕ) (old new : O) where
  pub none_displays : (reason : DemoFault) → IsUnavailable reason → DisplayFails failures old new reason
  none_displays fault.Port is = tt
  none_displays fault.Thread is = tt
  none_displays fault.Reply is = absurd is
  none_displays fault.Read is = absurd is
  none_displays fault.Write is = absurd is
  none_displays fault.Memory is = tt

  pub write_displays : (reason : DemoFault) → HasNotShown failures old new reason
      → DisplayFails failures old new reason
  write_displays fault.Port is = absurd is
  write_displays fault.Thread is = absurd is
  write_displays fault.Reply is = absurd is
  write_displays fault.Read is = absurd is
  write_displays fault.Write is = is
  write_displays fault.Memory is = tt

module _ {I O : Type 0} (reads : I → ℕ) (writes : O → ℕ) (old new : I × O) where
  -- the output failed
  pub display_fails : (reason : DemoFault) → DisplayFails writes old.1 new.1 reason
      → StayFails reads writes old new reason
  display_fails fault.Port is = is
  display_fails fault.Thread is = is
  display_fails fault.Reply is = is
  display_fails fault.Read is = absurd is
  display_fails fault.Write is = is
  display_fails fault.Memory is = is

  -- the input did
  pub input_fails : (reason : DemoFault) → InputFails reads old.0 new.0 reason
      → StayFails reads writes old new reason
  input_fails fault.Port is = absurd is
  input_fails fault.Thread is = absurd is
  input_fails fault.Reply is = absurd is
  input_fails fault.Read is = is
  input_fails fault.Write is = absurd is
  input_fails fault.Memory is = tt

  -- no server or no proxy could be had
  pub none_fails : (reason : DemoFault) → IsUnavailable reason → StayFails reads writes old new reason
  none_fails reason is = display_fails reason (none_displays writes old.1 new.1 reason is)

-- what fails after something was shown fails after what was before
pub later_stay_fails : {I O : Type 0} (reads : I → ℕ) (writes : O → ℕ) (input : I) (old middle : O) (new : I × O)
    (reason : DemoFault) → writes middle ≡ writes old → StayFails reads writes (input, middle) new reason
    → StayFails reads writes (input, old) new reason
later_stay_fails reads writes input old middle new fault.Port calm is = is
later_stay_fails reads writes input old middle new fault.Thread calm is = is
later_stay_fails reads writes input old middle new fault.Reply calm is = is
later_stay_fails reads writes input old middle new fault.Read calm is = is
later_stay_fails reads writes input old middle new fault.Write calm is = subst (λ n. n < writes new.1) calm is
later_stay_fails reads writes input old middle new fault.Memory calm is = is
