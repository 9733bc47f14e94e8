-- What came of a request that a client's session sent, as its session takes it.
use Rattle.std.specs.Prelude.{Bool, true, false, Result, Ok, Err}
use Rattle.tko_links.specs.declared.links.ExchangeNoMemory.{ExchangeNoMemory}
use Rattle.tko_links.specs.declared.links.Outcome.{Outcome}
use Rattle.tko_links.specs.declared.links.Outcome.TheVariants as outcome
use Rattle.tko_mux.specs.declared.asking.Came.{Came}
use Rattle.tko_mux.specs.declared.asking.Came.TheVariants.{Fate, Response, Unsent}
use Rattle.tko_pipe.specs.declared.fates.Fate.{Fate as FateOf}
use Rattle.tko_pipe.specs.declared.fates.Fate.TheVariants as fate

-- what became of a request without a response; where memory ran out for it, it was not counted
abbrev pub result_of_fate : FateOf → Result Outcome ExchangeNoMemory
result_of_fate fate.Refused = Ok outcome.Refused
result_of_fate fate.Timeout = Ok outcome.Timeout
result_of_fate fate.Broken = Ok outcome.Broken
result_of_fate fate.Aborted = Ok outcome.Aborted
result_of_fate fate.Memory = Err (record { sent = false })

abbrev pub result_of : Came → Result Outcome ExchangeNoMemory
result_of (Response response) = Ok (outcome.Reply response)
result_of (Fate it) = result_of_fate it
result_of Unsent = Err (record { sent = false })

-- it was not sent, since memory ran out
abbrev pub is_unsent : Came → Bool
is_unsent (Response response) = false
is_unsent (Fate it) = false
is_unsent Unsent = true
