pub mod GroupLemmas
pub mod RecordLemmas
pub mod RangeLemmas
