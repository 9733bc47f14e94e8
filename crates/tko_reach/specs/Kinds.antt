-- Of which kind what came of a server is.
use Rattle.std.specs.Prelude.{ℕ, Bool, true, false, List, [], ◌∷◌, codes}
use Rattle.tko_reach.specs.declared.reach.Reach.{Reach}
use Rattle.tko_reach.specs.declared.reach.Reach.TheVariants as reach
use Rattle.tko_reach.specs.declared.reach.ReachKind.{ReachKind}
use Rattle.tko_reach.specs.declared.reach.ReachKind.TheVariants as kind
use Rattle.tko_reach.specs.declared.reach.Reached.{Reached}

-- whether what came is of a kind
abbrev pub is_of_kind : ReachKind → Reach → Bool
is_of_kind kind.Version (reach.Version text) = true
is_of_kind kind.Answer (reach.Answer answer) = true
is_of_kind kind.Refused reach.Refused = true
is_of_kind kind.Timeout reach.Timeout = true
is_of_kind kind.Broken reach.Broken = true
is_of_kind _ _ = false

-- the word of a kind
abbrev pub reach_word : ReachKind → List ℕ
reach_word kind.Version = codes "version"
reach_word kind.Answer = codes "answer"
reach_word kind.Refused = codes "refused"
reach_word kind.Timeout = codes "timeout"
reach_word kind.Broken = codes "broken"

-- all kinds, as the totals have them
abbrev pub all_reach_kinds : List ReachKind
all_reach_kinds =
    kind.Version ∷ kind.Answer ∷ kind.Refused ∷ kind.Timeout ∷ kind.Broken ∷ []

-- whether a server gave its version
abbrev pub has_version : Reached → Bool
has_version server = is_of_kind kind.Version server.reach
