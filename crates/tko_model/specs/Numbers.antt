-- What is counted, and how many of each kind.
use Rattle.std.specs.Prelude.{ℕ, ◌+◌, List, codes, min}
use Rattle.tko_model.specs.declared.counts.Counts.{Counts}
use Rattle.tko_model.specs.declared.kind.Kind.{Kind}
use Rattle.tko_model.specs.declared.kind.Kind.TheVariants.{Request, Attempt, Skip, Reply, NoServer, Probe}

-- the greatest number that is counted
abbrev pub most : ℕ
most = 18446744073709551615

-- the word that a kind is printed as
abbrev pub kind_word : Kind → List ℕ
kind_word Request = codes "request"
kind_word Attempt = codes "attempt"
kind_word Skip = codes "skip"
kind_word Reply = codes "reply"
kind_word NoServer = codes "no-server"
kind_word Probe = codes "probe"

-- nothing was counted
abbrev pub no_counts : Counts
no_counts = record { request = 0; attempt = 0; skip = 0; reply = 0; no_server = 0; probe = 0 }

abbrev pub number_of_kind : Kind → Counts → ℕ
number_of_kind Request n = n.request
number_of_kind Attempt n = n.attempt
number_of_kind Skip n = n.skip
number_of_kind Reply n = n.reply
number_of_kind NoServer n = n.no_server
number_of_kind Probe n = n.probe

-- this number of the kind, and as many as before of every other
abbrev pub with_number : Kind → ℕ → Counts → Counts
with_number Request number n = record n { request = number }
with_number Attempt number n = record n { attempt = number }
with_number Skip number n = record n { skip = number }
with_number Reply number n = record n { reply = number }
with_number NoServer number n = record n { no_server = number }
with_number Probe number n = record n { probe = number }

-- `by` more of the kind, and as many as before of every other
abbrev pub raised : Kind → ℕ → Counts → Counts
raised kind by n = with_number kind (number_of_kind kind n + by) n

-- the same, but never more than the greatest number
abbrev pub saturated : Kind → ℕ → Counts → Counts
saturated kind by n = with_number kind (min (number_of_kind kind n + by) most) n
