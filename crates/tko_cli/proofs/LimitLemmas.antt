-- The limit of files in a text of lines.
use Rattle.std.proofs.Common.{◌≡◌, ℕ, List, ◌∷◌, [], Some, None, ap, length, arith, refl, ◌∙◌}
use Rattle.tko_bytes.specs.Lines.{lines_of}
use Rattle.tko_bytes.specs.Words.{words}
use Rattle.tko_cli.specs.OpenFiles.{limit_in, limit_or, limit_told, told_in}

-- a line that tells no limit is passed over
pub passed : (text line rest : List ℕ) → lines_of text ≡ line ∷ lines_of rest → told_in line ≡ None
    → limit_in (lines_of text) ≡ limit_in (lines_of rest)
unfolding limit_in
passed text line rest lines none = ap limit_in lines ∙ ap (λ told. limit_or told (limit_in (lines_of rest))) none

-- the first line that tells one decides
pub decided : (text line rest told : List ℕ) → lines_of text ≡ line ∷ lines_of rest → told_in line ≡ Some told
    → limit_in (lines_of text) ≡ limit_told (words told)
unfolding limit_in
decided text line rest told lines some = ap limit_in lines ∙ ap (λ found. limit_or found (limit_in (lines_of rest))) some

-- a text that is empty tells none
pub untold : (text : List ℕ) → length text ≡ 0 → limit_in (lines_of text) ≡ None
unfolding limit_in lines_of
untold [] none = refl
untold (b ∷ bytes) none = absurd (omega (arith, none))
