-- A text that ends with the written first line of a value, taken apart from its end.
use Rattle.std.proofs.Common.{◌≡◌, ◌≢◌, ℕ, ◌+◌, ◌/◌, ◌%◌, ◌^◌, ◌<◌, ◌≤◌, Bor, IfSome, MatchOption, Option, Some, None, List, [], ◌∷◌, ◌++◌, length, drop, append_assoc, ap, sym, ◌∙◌}
use Rattle.std.specs.Fmt.{decimal}
use Rattle.std.specs.Prelude.{codes}
use Rattle.std.proofs.Math.Seq.{drop-append_seam}
use Rattle.std.proofs.lemmas.Fmt.{decimal_digit, decimal_step}
use Rattle.tko_text.specs.declared.response.body.Value.{Value}
use Rattle.tko_text.specs.FirstLines.{first_line}
use Rattle.tko_text.specs.Responses.{value_text}

-- a word that is a number ends with the last digit of that
pub before_last_digit : (bytes rest front : List ℕ) (n : ℕ) → 10 ≤ n → n < 2 ^ 64
    → bytes ≡ rest ++ (48 + n % 10) ∷ [] → rest ≡ front ++ (codes " " ++ decimal (n / 10))
    → bytes ≡ front ++ (codes " " ++ decimal n)
before_last_digit bytes rest front n many bound last others =
    let digit = (48 + n % 10) ∷ [] in
    last ∙ ap (λ xs. xs ++ digit) others
    ∙ append_assoc front (codes " " ++ decimal (n / 10)) digit
    ∙ ap (λ digits. front ++ (codes " " ++ digits)) (sym (decimal_step n many bound))

-- and one of a single digit is that digit
pub before_only_digit : (bytes front : List ℕ) (n : ℕ) → n < 10
    → bytes ≡ front ++ (codes " " ++ (48 + n) ∷ []) → bytes ≡ front ++ (codes " " ++ decimal n)
before_only_digit bytes front n small is =
    is ∙ ap (λ digits. front ++ (codes " " ++ digits)) (sym (decimal_digit n small))

-- what comes before an end that was taken off
pub before_end : (bytes end : List ℕ) (found : Option (Bor (List ℕ)))
    → MatchOption found ((front : List ℕ) → bytes ≢ front ++ end)
    (λ front. bytes ≡ front.now ++ end)
    → IfSome found (λ front. bytes ≡ front.now ++ end)
before_end bytes end None not_found = tt
before_end bytes end (Some front) whole = whole

-- the first line of a value, its data and what follows them, which begins with their CR LF
pub value_whole : (value : Value) (before front stored last end text : List ℕ)
    → before ≡ front ++ first_line value → stored ≡ value.data → last ≡ codes "\r\n" ++ end
    → text ≡ drop (length front) before ++ stored ++ last → text ≡ value_text value ++ end
value_whole value before front stored last end text ends same follows is =
    let line = first_line value in
    is ∙ ap (λ xs. drop (length front) xs ++ stored ++ last) ends
    ∙ ap (λ xs. xs ++ stored ++ last) (drop-append_seam front line)
    ∙ ap (λ xs. line ++ xs ++ last) same ∙ ap (λ xs. line ++ value.data ++ xs) follows
    ∙ sym (append_assoc (line ++ value.data) (codes "\r\n") end)
