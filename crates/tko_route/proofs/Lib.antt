pub mod MadeLemmas
pub mod RecordedLemmas
pub mod RoutingLemmas
pub mod TrailLemmas
