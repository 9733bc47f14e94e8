-- What a request that names one key does, by the rules of memcached, over what is stored under it.
use Rattle.std.specs.Prelude.{ℕ, ◌+◌, ◌-◌, ◌%◌, ◌^◌, List, ◌++◌, length, codes, decimal, nat_le, ◌==◌, if◌then◌else◌, Option, Some, None}
use Rattle.tko_bytes.specs.Numbers.{number_of}
use Rattle.tko_text.specs.Limits.{data_limit, number_limit}
use Rattle.tko_text.specs.declared.request.Verb.{Verb}
use Rattle.tko_text.specs.declared.request.Verb.TheVariants.{Set, Add, Replace, Append, Prepend}
use Rattle.tko_demo.specs.declared.effect.Change.TheVariants.{Keep, Put, Remove}
use Rattle.tko_demo.specs.declared.effect.Count.{Count}
use Rattle.tko_demo.specs.declared.effect.Count.TheVariants.{Up, Down}
use Rattle.tko_demo.specs.declared.effect.Effect.{Effect}
use Rattle.tko_demo.specs.declared.effect.Outcome.{Outcome}
use Rattle.tko_demo.specs.declared.effect.Outcome.TheVariants.{Stored, NotStored, Exists, NotFound, Deleted, Touched, Number, NotNumber, TooLarge}
use Rattle.tko_demo.specs.declared.store.Kept.{Kept}

-- the line of an outcome
unfoldable pub outcome_line : Outcome → List ℕ
outcome_line Stored = codes "STORED\r\n"
outcome_line NotStored = codes "NOT_STORED\r\n"
outcome_line Exists = codes "EXISTS\r\n"
outcome_line NotFound = codes "NOT_FOUND\r\n"
outcome_line Deleted = codes "DELETED\r\n"
outcome_line Touched = codes "TOUCHED\r\n"
outcome_line (Number n) = decimal n ++ codes "\r\n"
outcome_line NotNumber =
    codes "CLIENT_ERROR cannot increment or decrement non-numeric value\r\n"
outcome_line TooLarge = codes "SERVER_ERROR object too large for cache\r\n"

-- it is answered so, and what is stored stays
abbrev pub only : Outcome → Effect
only outcome = record { outcome = outcome; change = Keep }

-- these are stored
abbrev pub put : ℕ → List ℕ → Effect
put flags bytes = record { outcome = Stored; change = Put flags bytes }

-- these are stored, and it is answered so, where they are few enough
abbrev pub fitting : Outcome → ℕ → List ℕ → Effect
fitting outcome flags bytes =
    if nat_le (length bytes) data_limit
    then record { outcome = outcome; change = Put flags bytes }
    else only TooLarge

-- `set` stores always, `add` where nothing is stored, and the others where something is, of which
-- `append` and `prepend` keep the flags and the data
abbrev pub storing : Verb → ℕ → List ℕ → Option Kept → Effect
storing Set flags bytes found = put flags bytes
storing Add flags bytes None = put flags bytes
storing Add flags bytes (Some kept) = only NotStored
storing Replace flags bytes None = only NotStored
storing Replace flags bytes (Some kept) = put flags bytes
storing Append flags bytes None = only NotStored
storing Append flags bytes (Some kept) = fitting Stored kept.flags (kept.data ++ bytes)
storing Prepend flags bytes None = only NotStored
storing Prepend flags bytes (Some kept) = fitting Stored kept.flags (bytes ++ kept.data)

-- `cas` stores where the cas number is still this one
abbrev pub cas_effect : ℕ → ℕ → List ℕ → Option Kept → Effect
cas_effect unique flags bytes None = only NotFound
cas_effect unique flags bytes (Some kept) =
    if kept.unique == unique then put flags bytes else only Exists

abbrev pub removal : Option Kept → Effect
removal None = only NotFound
removal (Some kept) = record { outcome = Deleted; change = Remove }

-- nothing expires
abbrev pub touching : Option Kept → Effect
touching None = only NotFound
touching (Some kept) = only Touched

-- `incr` wraps at 2^64, and `decr` ends at 0
abbrev pub number_after : Count → ℕ → ℕ
number_after (Up amount) n = (n + amount) % 2 ^ 64
number_after (Down amount) n = n - amount

-- a number takes the place of the one that is stored
abbrev pub count_from : Count → ℕ → Option ℕ → Effect
count_from count flags None = only NotNumber
count_from count flags (Some n) =
    fitting (Number (number_after count n)) flags (decimal (number_after count n))

abbrev pub count_effect : Count → Option Kept → Effect
count_effect count None = only NotFound
count_effect count (Some kept) =
    count_from count kept.flags (number_of number_limit kept.data)
