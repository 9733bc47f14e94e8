-- Times and rates as people read them.
use Rattle.std.specs.Prelude.{ℕ, ◌+◌, ◌*◌, ◌/◌, ◌%◌, ◌==◌, nat_lt, if◌then◌else◌, List, [], ◌++◌, codes, decimal}
use Rattle.tko_bytes.specs.Numbers.{capped}

-- the milliseconds of a second, and the microseconds of a millisecond
abbrev pub thousand : ℕ
thousand = 1000

-- the microseconds of a second
abbrev pub second_micros : ℕ
second_micros = 1000000

-- the seconds of a minute, of an hour and of a day
abbrev pub minute : ℕ
minute = 60

abbrev pub hour : ℕ
hour = 3600

abbrev pub day : ℕ
day = 86400

-- two numbers, each with its unit behind it
unfoldable pub pair_text : ℕ → List ℕ → ℕ → List ℕ → List ℕ
pair_text great unit small small_unit = decimal great ++ unit ++ decimal small ++ small_unit

-- seconds in the two greatest of their units
abbrev pub seconds_in_words : ℕ → List ℕ
seconds_in_words seconds =
    if nat_lt seconds minute then decimal seconds ++ codes " s"
    else if nat_lt seconds hour
    then pair_text (seconds / minute) (codes " min ") (seconds % minute) (codes " s")
    else if nat_lt seconds day
    then pair_text (seconds / hour) (codes " h ") (seconds % hour / minute) (codes " min")
    else pair_text (seconds / day) (codes " d ") (seconds % day / hour) (codes " h")

abbrev pub duration_text : ℕ → List ℕ
duration_text milliseconds = seconds_in_words (milliseconds / thousand)

-- a number of tenths
unfoldable pub tenths_text : ℕ → List ℕ
tenths_text number = decimal (number / 10) ++ codes "." ++ decimal (number % 10)

-- how long it is until a moment: in tenths of a second below a minute
abbrev pub wait_text : ℕ → List ℕ
wait_text milliseconds =
    if nat_lt milliseconds 100 then codes "now"
    else if nat_lt milliseconds (minute * thousand)
    then codes "in " ++ tenths_text (milliseconds / 100) ++ codes " s"
    else codes "in " ++ duration_text milliseconds

-- thousandths below 1,000 behind the point, without zeros at the end
abbrev pub fraction_text : ℕ → List ℕ
fraction_text number =
    if number == 0 then []
    else if number % 100 == 0 then codes "." ++ decimal (number / 100)
    else if number % 10 == 0
    then codes "." ++ decimal (number / 100) ++ decimal (number / 10 % 10)
    else codes "." ++ decimal (number / 100) ++ decimal (number / 10 % 10)
    ++ decimal (number % 10)

-- a number of thousandths
unfoldable pub thousandths_text : ℕ → List ℕ
thousandths_text number = decimal (number / thousand) ++ fraction_text (number % thousand)

-- a bound in microseconds, as milliseconds below a second, and else as seconds
abbrev pub bound_text : ℕ → List ℕ
bound_text micros =
    if nat_lt micros second_micros then thousandths_text micros ++ codes " ms"
    else thousandths_text (micros / thousand) ++ codes " s"

-- how many tenths a second so many in these milliseconds are, rounded
abbrev pub rate_tenths : ℕ → ℕ → ℕ
rate_tenths count milliseconds =
    capped (capped (count * (10 * thousand)) + milliseconds / 2) / milliseconds

-- how many a second so many in these milliseconds are
abbrev pub rate_text : ℕ → ℕ → List ℕ
rate_text count milliseconds =
    if milliseconds == 0 then codes "not known yet"
    else tenths_text (rate_tenths count milliseconds)
