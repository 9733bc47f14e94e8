-- Scenes as they are shown.
use Rattle.std.proofs.Common.{◌≡◌, ℕ, List, ◌++◌, flat_map}
use Rattle.tko_demo.proofs.PlayLemmas.{shown_then}
use Rattle.tko_demo.specs.Exchanges.{shown_text}
use Rattle.tko_demo.specs.Playing.{IsShown}
use Rattle.tko_demo.specs.Scenes.{exchanges_of, note_of, scene_text, waited_text}
use Rattle.tko_demo.specs.declared.exchange.Exchange.{Exchange}
use Rattle.tko_demo.specs.declared.scene.Scene.{Scene}

-- a note, the wait and the exchanges are a scene
pub scene_shown : {O : Type 0} (takes : O → List ℕ → O → Type 0) (failures : O → ℕ)
    → ((x y z : O) (bytes more : List ℕ) → takes x bytes y → takes y more z → takes x (bytes ++ more) z)
    → (scene : Scene) (note : List ℕ) (exchanges : List Exchange) (old noted waited new : O)
    → note ≡ note_of scene → exchanges ≡ exchanges_of scene → IsShown takes failures note old noted
    → IsShown takes failures (waited_text scene) noted waited
    → IsShown takes failures (flat_map shown_text exchanges) waited new
    → IsShown takes failures (scene_text scene) old new
unfolding scene_text
scene_shown takes failures goes_on scene note exchanges old noted waited new is are first second third =
    shown_then takes failures (note_of scene ++ waited_text scene) (flat_map shown_text (exchanges_of scene)) goes_on
    old waited new
    (shown_then takes failures (note_of scene) (waited_text scene) goes_on old noted waited (rw is at first) second)
    (rw are at third)
