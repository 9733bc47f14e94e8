mod LeavingLemmas
mod LendingLemmas
pub mod ReadyLemmas
mod WorkLemmas
