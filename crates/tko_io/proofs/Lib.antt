pub mod ListLemmas
pub mod WriteLemmas
