-- The scenes of the story.
use Rattle.std.specs.Prelude.{◌≡◌, ℕ, List, [], ◌∷◌, ◌++◌, codes, flat_map}
use Rattle.tko_demo.specs.Exchanges.{shown_text}
use Rattle.tko_demo.specs.Playing.{HasPlayed, HasWaited}
use Rattle.tko_demo.specs.declared.exchange.Exchange.{Exchange}
use Rattle.tko_demo.specs.declared.exchange.Exchange.TheVariants.{Stored, Found, Missed, Marked, Unmarked}
use Rattle.tko_demo.specs.declared.playing.Caller.{Caller}
use Rattle.tko_demo.specs.declared.scene.Scene.{Scene}
use Rattle.tko_demo.specs.declared.scene.Scene.TheVariants.{Started, Gone, Back}

-- what is printed before the exchanges of a scene
abbrev pub note_of : Scene → List ℕ
note_of Started = codes "Two pools of one server each, near and far, behind the proxy:\n"
note_of Gone = codes "The server of near goes away. The proxy asks far at once:\n"
note_of Back = codes "The server of near is back, and empty. The proxy finds it by a probe:\n"

-- the exchanges of a scene. Without its server the proxy finds nothing, since a value is stored in
-- one pool; it stores and finds in the other pool, and has marked the server. With the server back,
-- nothing is found there.
abbrev pub exchanges_of : Scene → List Exchange
exchanges_of Started = Stored ∷ Found ∷ []
exchanges_of Gone = Missed ∷ Stored ∷ Found ∷ Marked ∷ []
exchanges_of Back = Missed ∷ Stored ∷ Found ∷ []

-- what is printed of the wait for the probe, where there is one
abbrev pub waited_text : Scene → List ℕ
waited_text Started = []
waited_text Gone = []
waited_text Back = shown_text Unmarked

-- a scene as it is printed
unfoldable pub scene_text : Scene → List ℕ
scene_text scene =
    note_of scene ++ waited_text scene ++ flat_map shown_text (exchanges_of scene)

module _ {I C : Type 0} (gives : I → List ℕ → I → Type 0) (takes : C → List ℕ → C → Type 0)
    (near far : List ℕ) where
  -- where the server is back, the client waited until it had no mark
  abbrev pub WaitsIn : Scene → Caller I C → Caller I C → Type 0
  WaitsIn Started old new = new ≡ old
  WaitsIn Gone old new = new ≡ old
  WaitsIn Back old new = HasWaited gives takes near far old new

  -- each reply of a scene was the one that is due
  pub record HasPlayedScene (scene : Scene) (old new : Caller I C) : Type 0 where
    pub middle : Caller I C
    pub waited : WaitsIn scene old middle
    pub played : HasPlayed gives takes near far (exchanges_of scene) middle new
