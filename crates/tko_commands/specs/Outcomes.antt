-- The list of outcomes: words separated by commas, and what each asks of a server.
use Rattle.std.specs.Prelude.{◌≡◌, ℕ, ◌==◌, Bool, ◌||◌, not, if◌then◌else◌, List, [], ◌∷◌, ◌++◌, length, take, drop, map, codes, Option, Some, None, is_some, option_map}
use Rattle.std.specs.Result.{result_ok}
use Rattle.hex.specs.Hex.{decode_of}
use Rattle.std.specs.Borrow.{Bor}
use Rattle.std.specs.List.{slice_split, position_from}
use Rattle.std.specs.Str.{bytes_eq}
use Rattle.tko_bytes.specs.Lines.{crlf}
use Rattle.tko_links.specs.declared.scripted.Script.{Script}
use Rattle.tko_links.specs.declared.scripted.Script.TheVariants as script
use Rattle.tko_commands.specs.declared.outcomes.OutcomesFault.{OutcomesFault}
use Rattle.tko_commands.specs.declared.outcomes.OutcomesFault.TheVariants as fault

-- the byte `,`
abbrev pub comma : ℕ
comma = 44

-- the words of a list, split at each comma; the empty text has none
abbrev pub words_of : List ℕ → List (List ℕ)
words_of list = if length list == 0 then [] else slice_split (λ byte. byte == comma) list

-- the texts that references point to
abbrev pub texts_pointed_to : List (Bor (List ℕ)) → List (List ℕ)
texts_pointed_to words = map (λ word. word.now) words

-- what follows a beginning of a word, where the word begins so
abbrev pub text_after : List ℕ → List ℕ → Option (List ℕ)
text_after front word =
    let count = length front in
    if bytes_eq (take count word) front then Some (drop count word) else None

abbrev pub text_of_hit : List ℕ → Option (List ℕ)
text_of_hit word = text_after (codes "hit:") word

abbrev pub text_of_line : List ℕ → Option (List ℕ)
text_of_line word = text_after (codes "line:") word

-- the line that a word asks of a server: that of a miss, or the line of its text
abbrev pub line_asked : List ℕ → Option (List ℕ)
line_asked word =
    if bytes_eq word (codes "miss") then Some (codes "END")
    else text_of_line word

-- the digits of `bytes:<hex>`
abbrev pub digits_of_bytes : List ℕ → Option (List ℕ)
digits_of_bytes word = text_after (codes "bytes:") word

-- the bytes of pairs of hexadecimal digits in either case; no other text has any
abbrev pub bytes_of_digits : List ℕ → Option (List ℕ)
bytes_of_digits digits = result_ok (decode_of digits)

-- the bytes that these digits ask of a server, or without digits this line
abbrev pub digits_or_line : Option (List ℕ) → Option (List ℕ) → Option (List ℕ)
digits_or_line (Some digits) line = bytes_of_digits digits
digits_or_line None line = option_map (λ line. line ++ crlf) line

-- the bytes that a word asks a server to answer
abbrev pub answer_asked : List ℕ → Option (List ℕ)
answer_asked word = digits_or_line (digits_of_bytes word) (line_asked word)

-- whether a word is one of the list's; the texts of `hit:` and `line:` and the digits of `bytes:`
-- may be empty
abbrev pub is_outcome : List ℕ → Bool
is_outcome word =
    bytes_eq word (codes "refused")
    || (bytes_eq word (codes "timeout")
    || (bytes_eq word (codes "broken")
    || (is_some (text_of_hit word) || is_some (answer_asked word))))

-- the number of the first bad word, counted from 1
abbrev pub first_bad : List (List ℕ) → Option ℕ
first_bad words = position_from (λ word. not (is_outcome word)) 1 words

-- what a word asks of a server: to refuse, to be silent, to break the connection, to answer a value
-- of the asked key, or to answer these bytes
abbrev pub NamesScript : List ℕ → Script → Type 0
NamesScript word script.Refused = word ≡ codes "refused"
NamesScript word script.Timeout = word ≡ codes "timeout"
NamesScript word script.Broken = word ≡ codes "broken"
NamesScript word (script.Hit text) = text_of_hit word ≡ Some text.items
NamesScript word (script.Bytes bytes) = answer_asked word ≡ Some bytes.items

-- each word asks for the script at its place
abbrev pub AllAsk : List (List ℕ) → List Script → Type 0
AllAsk [] [] = Unit {0}
AllAsk [] (asked ∷ others) = ⊥
AllAsk (word ∷ words) [] = ⊥
AllAsk (word ∷ words) (asked ∷ others) = NamesScript word asked × AllAsk words others

-- its first bad word, or memory ran out
abbrev pub RefusesOutcomes : List (List ℕ) → OutcomesFault → Type 0
RefusesOutcomes words (fault.Word number) = first_bad words ≡ Some number
RefusesOutcomes words fault.Memory = Unit {0}
