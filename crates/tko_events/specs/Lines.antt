-- The words and the numbers of a server's lines.
use Rattle.std.specs.Prelude.{◌≡◌, ℕ, ◌+◌, List, Option, Some, None, codes, length, map, option_map, replicate, slice_get, slice_index_or, String, string_bytes, unwrap_or}
use Rattle.tko_bytes.specs.Numbers.{capped}
use Rattle.tko_tcp.specs.declared.lack.Lack.{Lack}
use Rattle.tko_tcp.specs.declared.lack.Lack.TheVariants as lack
use Rattle.tko_tcp.specs.declared.look_ups.Unresolved.{Unresolved}
use Rattle.tko_tcp.specs.declared.look_ups.Unresolved.TheVariants as reason
use Rattle.tko_events.specs.declared.event.Cause.{Cause}
use Rattle.tko_events.specs.declared.event.Cause.TheVariants as cause
use Rattle.tko_events.specs.declared.event.ServerChange.{ServerChange}
use Rattle.tko_events.specs.declared.event.ServerChange.TheVariants as change
use Rattle.tko_events.specs.declared.journal.Journal.{Journal}
use Rattle.tko_events.specs.declared.journal.KnownServer.{KnownServer}
use Rattle.tko_events.specs.declared.journal.Marked.{Marked}
use Rattle.tko_events.specs.declared.journal.Marked.TheVariants as marked

abbrev pub change_word : ServerChange → List ℕ
change_word change.MarkedSoft = codes "marked"
change_word change.MarkedHard = codes "marked"
change_word change.Hardened = codes "hardened"
change_word change.Unmarked = codes "unmarked"
change_word change.Released = codes "released"
change_word change.Probed = codes "probed"

abbrev pub cause_word : Option Cause → List ℕ
cause_word (Some cause.Reply) = codes "reply"
cause_word (Some cause.Timeout) = codes "timeout"
cause_word (Some cause.Refused) = codes "refused"
cause_word (Some cause.Broken) = codes "broken"
cause_word (Some cause.Aborted) = codes "aborted"
cause_word (Some cause.Spent) = codes "spent"
cause_word (Some cause.Memory) = codes "memory"
cause_word None = codes "none"

abbrev pub lack_word : Lack → List ℕ
lack_word lack.Ports = codes "ports"
lack_word lack.Descriptors = codes "descriptors"
lack_word lack.Memory = codes "memory"

-- why the name of a server has no address
abbrev pub reason_word : Unresolved → List ℕ
reason_word reason.Unknown = codes "unknown"
reason_word reason.NoAddress = codes "no_address"
reason_word reason.NoAnswer = codes "no_answer"
reason_word (reason.Lacking what) = lack_word what
reason_word reason.Failed = codes "failed"

abbrev pub mark_word : Marked → List ℕ
mark_word marked.Up = codes "up"
mark_word marked.Soft = codes "soft"
mark_word marked.Hard = codes "hard"

-- the address of a server, or a question mark where there is no such server
abbrev pub address_at : {A : Type 0} → List (String A) → ℕ → List ℕ
address_at names server = unwrap_or (option_map string_bytes (slice_get names server)) (codes "?")

-- a server of which no event has told
abbrev pub never_marked : KnownServer
never_marked = record { mark = marked.Up; probes = 0 }

-- what is known of a server; of one that there is not, that it is up
abbrev pub known_at : List KnownServer → ℕ → KnownServer
known_at servers server = slice_index_or servers server never_marked

-- what is known of a server after an event: its mark, and its probes since it was marked
abbrev pub known_after : ServerChange → KnownServer → KnownServer
known_after change.MarkedSoft known = record { mark = marked.Soft; probes = 0 }
known_after change.MarkedHard known = record { mark = marked.Hard; probes = 0 }
known_after change.Hardened known = record known { mark = marked.Hard }
known_after change.Unmarked known = record known { mark = marked.Up }
known_after change.Released known = record known { mark = marked.Up }
known_after change.Probed known = record known { probes = capped (known.probes + 1) }

-- the count of an event's line: the failures that made a mark, or else the probes since it was made
abbrev pub count_in : ℕ → ServerChange → KnownServer → ℕ
count_in failures change.MarkedSoft known = failures
count_in failures change.MarkedHard known = 1
count_in failures change.Hardened known = known.probes
count_in failures change.Unmarked known = known.probes
count_in failures change.Released known = known.probes
count_in failures change.Probed known = (known_after change.Probed known).probes

-- the journal of a program that listens here, over servers of these addresses, of which so many
-- soft failures in a row mark one; no event has come yet
pub record IsJournalBegun (listen : List ℕ) (failures : ℕ) (addresses : List (List ℕ))
    (journal : Journal) : Type 0
  where
    pub at : string_bytes journal.listen ≡ listen
    pub marked_after : journal.failures ≡ failures
    pub over : map string_bytes journal.names.items ≡ addresses
    pub up : journal.servers.items ≡ replicate (length journal.names.items) never_marked
