pub mod EndingLemmas
mod LimitLemmas
pub mod NoticeLemmas
pub mod PlannedLemmas
pub mod ServingLemmas
