-- Which reply the bytes are that were heard.
use Rattle.std.specs.Prelude.{◌≡◌, ◌⊎◌, ◌<◌, ℕ, Bool, ◌||◌, List, length, take, bytes_eq, if◌then◌else◌}
use Rattle.tko_io.specs.declared.io.Inlet.{Ghosts as InletGhosts}
use Rattle.tko_demo.specs.declared.hearing.Heard.{Heard}
use Rattle.tko_demo.specs.declared.hearing.Heard.TheVariants as heard
use Rattle.tko_demo.specs.declared.hearing.Verdict.{Verdict}
use Rattle.tko_demo.specs.declared.hearing.Verdict.TheVariants as verdict

-- whether a text begins with these bytes
abbrev pub is_front_of : List ℕ → List ℕ → Bool
is_front_of text bytes = bytes_eq (take (length bytes) text) bytes

-- which of the two replies these bytes are, or whether they may become one
abbrev pub verdict_of : List ℕ → List ℕ → List ℕ → Verdict
verdict_of due other bytes =
    if bytes_eq bytes due then verdict.Due
    else if bytes_eq bytes other then verdict.Other
    else if is_front_of due bytes || is_front_of other bytes then verdict.Open
    else verdict.Wrong

-- no more bytes came: the input ended, was idle or failed
abbrev pub HasHeardNoMore : {I : Type 0} → InletGhosts I → I → I → Type 0
HasHeardNoMore inlet old new =
    inlet.is_ended new ⊎ (inlet.idles old < inlet.idles new)
    ⊎ (inlet.failures old < inlet.failures new)

-- these bytes are neither reply, and can become none, or no more of them came
pub record IsWrong {I : Type 0} (inlet : InletGhosts I) (due other : List ℕ) (old : I)
    (bytes : List ℕ) (new : I) : Type 0 where
  pub came : inlet.gives old bytes new
  pub neither : (verdict_of due other bytes ≡ verdict.Wrong)
      ⊎ ((verdict_of due other bytes ≡ verdict.Open) × HasHeardNoMore inlet old new)

-- one of the two replies was read, and nothing else, or what is neither
abbrev pub HasHeard : {I : Type 0} → InletGhosts I → List ℕ → List ℕ → I → Heard → I → Type 0
HasHeard inlet due other old heard.Due new = inlet.gives old due new
HasHeard inlet due other old heard.Other new = inlet.gives old other new
HasHeard inlet due other old (heard.Wrong bytes) new =
    IsWrong inlet due other old bytes.items new
