pub mod ConfiguredLemmas
pub mod DryLemmas
pub mod FaultLineLemmas
pub mod GroupedLemmas
pub mod KeyListLemmas
pub mod ReasonLemmas
pub mod ReplayLemmas
