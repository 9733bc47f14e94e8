-- What came for the probe of a server, as the worker keeps it.
use Rattle.std.specs.Prelude.{Option, Some, None, Result, Ok, Err}
use Rattle.tko_mux.specs.declared.asking.Came.{Came}
use Rattle.tko_mux.specs.declared.mux.delivery.Delivery.{Delivery}
use Rattle.tko_mux.specs.declared.mux.delivery.Delivery.TheVariants.{Dropped, Probed, Reached}
use Rattle.tko_pipe.specs.declared.fates.ShutCause.{ShutCause}
use Rattle.tko_port.specs.declared.guest.Turned.{Turned}

-- what was delivered, if anything was
abbrev pub delivery_in : Result (Option (Delivery Turned)) ShutCause → Option (Delivery Turned)
delivery_in (Ok delivery) = delivery
delivery_in (Err why) = None

-- what came for a probe and was not fetched yet, after something was delivered
abbrev pub probed_after : Delivery Turned → Option Came → Option Came
probed_after (Reached number done) probed = probed
probed_after (Probed it) probed = Some it
probed_after (Dropped number) probed = probed

abbrev pub probed_after_delivery : Option (Delivery Turned) → Option Came → Option Came
probed_after_delivery None probed = probed
probed_after_delivery (Some delivery) probed = probed_after delivery probed
