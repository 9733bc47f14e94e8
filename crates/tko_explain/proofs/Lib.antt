mod BegunLemmas
mod KeptLemmas
mod KeysTextLemmas
pub mod NumberLemmas
pub mod OddLemmas
mod PointLemmas
pub mod ReasonLemmas
pub mod ReportLemmas
mod TallyLemmas
