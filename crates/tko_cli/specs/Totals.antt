-- How the totals of the workers are printed.
use Rattle.std.specs.Prelude.{List, ℕ, [], ◌∷◌, ◌++◌, codes, decimal}
use Rattle.tko_model.specs.Numbers.{kind_word, number_of_kind}
use Rattle.tko_model.specs.declared.counts.Counts.{Counts}
use Rattle.tko_model.specs.declared.kind.Kind.{Kind}
use Rattle.tko_model.specs.declared.kind.Kind.TheVariants.{Request, Attempt, Skip, Reply, NoServer, Probe}

-- the line of a kind
abbrev pub total_text : Kind → Counts → List ℕ
total_text kind counts =
    codes "total " ++ kind_word kind ++ codes " "
    ++ decimal (number_of_kind kind counts) ++ codes "\n"

-- the lines of these kinds
abbrev pub totals_of : List Kind → Counts → List ℕ
totals_of [] counts = []
totals_of (kind ∷ others) counts = total_text kind counts ++ totals_of others counts

-- a line for each kind
abbrev pub totals_text : Counts → List ℕ
totals_text counts =
    totals_of (Request ∷ Attempt ∷ Skip ∷ Reply ∷ NoServer ∷ Probe ∷ []) counts
