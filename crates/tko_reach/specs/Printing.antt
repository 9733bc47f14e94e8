-- What is printed of servers that were asked for their versions.
use Rattle.std.specs.Prelude.{ℕ, ◌+◌, ◌-◌, ◌/◌, ◌%◌, Bool, ◌&&◌, ◌==◌, not, if◌then◌else◌, nat_le, nat_lt, List, [], ◌∷◌, ◌++◌, codes, decimal, flat_map, length, string_bytes, take}
use Rattle.std.specs.List.{filter}
use Rattle.tko_bytes.specs.Lines.{lines_of}
use Rattle.tko_reach.specs.declared.reach.Reach.{Reach}
use Rattle.tko_reach.specs.declared.reach.Reach.TheVariants as reach
use Rattle.tko_reach.specs.declared.reach.ReachKind.{ReachKind}
use Rattle.tko_reach.specs.declared.reach.Reached.{Reached}
use Rattle.tko_reach.specs.Kinds.{all_reach_kinds, is_of_kind, reach_word}

-- the space and `~`, the first and the last printable byte, and `\`
abbrev pub first_plain : ℕ
first_plain = 32

abbrev pub last_plain : ℕ
last_plain = 126

abbrev pub escape_sign : ℕ
escape_sign = 92

-- whether a byte is printed as it is
abbrev pub is_plain : ℕ → Bool
is_plain byte = nat_le first_plain byte && nat_le byte last_plain && not (byte == escape_sign)

-- a digit below 16: `0` to `9`, and `a` to `f`
abbrev pub hex_digit : ℕ → ℕ
hex_digit digit = if nat_lt digit 10 then 48 + digit else 97 + (digit - 10)

-- a byte, or `\x` and its two hexadecimal digits
abbrev pub shown_byte : ℕ → List ℕ
shown_byte byte =
    if is_plain byte then byte ∷ []
    else codes "\\x" ++ hex_digit (byte / 16) ∷ hex_digit (byte % 16) ∷ []

-- the most bytes of a server's answer that are printed
abbrev pub most_shown : ℕ
most_shown = 80

-- a text of a server, cut where it is longer
abbrev pub shown_answer : List ℕ → List ℕ
shown_answer text =
    if nat_lt most_shown (length text) then flat_map shown_byte (take most_shown text) ++ codes ".."
    else flat_map shown_byte text

-- the first of some lines
abbrev pub front_line : List (List ℕ) → List ℕ
front_line [] = []
front_line (line ∷ lines) = line

-- the first line of a text
abbrev pub head_line : List ℕ → List ℕ
head_line [] = []
head_line (byte ∷ bytes) = front_line (lines_of (byte ∷ bytes))

-- what came of a server
abbrev pub reach_text : Reach → List ℕ
reach_text (reach.Version text) = codes " version " ++ shown_answer text
reach_text (reach.Answer answer) = codes " answer " ++ shown_answer (head_line answer.items)
reach_text reach.Refused = codes " refused"
reach_text reach.Timeout = codes " timeout"
reach_text reach.Broken = codes " broken"

-- the line of a server
abbrev pub reached_line : Reached → List ℕ
reached_line server =
    codes "server " ++ decimal server.number ++ codes " " ++ string_bytes server.address
    ++ reach_text server.reach ++ codes "\n"

-- of how many servers this came
abbrev pub count_reached : ReachKind → List Reached → ℕ
count_reached kind servers = length (filter (λ (it : Reached). is_of_kind kind it.reach) servers)

-- this number, after its word
abbrev pub reach_count : List Reached → ReachKind → List ℕ
reach_count servers kind =
    codes " " ++ reach_word kind ++ codes " " ++ decimal (count_reached kind servers)

abbrev pub reach_counts : List Reached → List ReachKind → List ℕ
reach_counts servers kinds = flat_map (reach_count servers) kinds

-- how many servers there are, and of how many of them each of these came
abbrev pub reaches_totals : List Reached → List ℕ
reaches_totals servers =
    codes "total server " ++ decimal (length servers) ++ reach_counts servers all_reach_kinds
    ++ codes "\n"

-- a line of each server, and the line of totals
abbrev pub reaches_text : List Reached → List ℕ
reaches_text servers = flat_map reached_line servers ++ reaches_totals servers
