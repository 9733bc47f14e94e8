-- How look-ups of names end, and when that is told.
use Rattle.std.specs.Prelude.{◌≡◌, ◌≢◌, ℕ, List, Option, Some, None, codes}
use Rattle.tko_tcp.specs.declared.look_ups.LookUpEnd.{LookUpEnd}

-- the texts of std's errors for EAI_NONAME, EAI_NODATA and EAI_AGAIN of getaddrinfo
abbrev pub unknown_name : List ℕ
unknown_name = codes "failed to lookup address information: Name or service not known"

abbrev pub no_address : List ℕ
no_address = codes "failed to lookup address information: No address associated with hostname"

abbrev pub no_answer : List ℕ
no_answer = codes "failed to lookup address information: Temporary failure in name resolution"

-- how a look-up ended is told if the one before it ended otherwise
pub record IsEndTold (before end : LookUpEnd) (told : Option LookUpEnd) : Type 0 where
  pub same : end ≡ before → told ≡ None
  pub other : end ≢ before → told ≡ Some end
