-- Why an exchange has no response.
use Rattle.std.specs.Prelude.{true, Result, Ok, Err}
use Rattle.tko_links.specs.declared.fault.LinkFault.{LinkFault}
use Rattle.tko_links.specs.declared.fault.LinkFault.TheVariants as fault
use Rattle.tko_links.specs.declared.links.ExchangeNoMemory.{ExchangeNoMemory}
use Rattle.tko_links.specs.declared.links.Outcome.{Outcome}
use Rattle.tko_links.specs.declared.links.Outcome.TheVariants as outcome
use Rattle.tko_links.specs.declared.wire.WireFault.{WireFault}
use Rattle.tko_links.specs.declared.wire.WireFault.TheVariants as wire_fault

-- what a failed read or write is to an exchange
abbrev pub link_fault_of : WireFault → LinkFault
link_fault_of wire_fault.TimedOut = fault.TimedOut
link_fault_of wire_fault.Other = fault.Broken

-- what the exchange returns, which was counted
abbrev pub exchange_outcome : LinkFault → Result Outcome ExchangeNoMemory
exchange_outcome fault.TimedOut = Ok outcome.Timeout
exchange_outcome fault.Broken = Ok outcome.Broken
exchange_outcome fault.Memory = Err (record { sent = true })
