-- How a worker ends.
use Rattle.std.specs.Prelude.{◌≡◌, ℕ, ◌+◌, List, [], ◌∷◌, length}
use Rattle.tko_model.specs.declared.mark.Op.TheVariants.{Release}
use Rattle.tko_model.specs.declared.mark.Reply.{Reply}
use Rattle.tko_model.specs.Records.{Called, Gains, HealthItem}

-- the calls that release one server after another, from this one on, with these replies
abbrev pub releases_from : ℕ → List Reply → List HealthItem
releases_from server [] = []
releases_from server (answer ∷ answers) =
    Called Release server answer ∷ releases_from (server + 1) answers

-- each of so many servers was released, once, in number order, and nothing else was done
pub record ReleasesEach {W : Type 0} (steps : W → HealthItem → W → Type 0) (count : ℕ)
    (old new : W) : Type 0 where
  pub answers : List Reply
  pub each : length answers ≡ count
  pub gains : Gains steps old (releases_from 0 answers) new
