pub mod AskedLemmas
pub mod CommandLineLemmas
pub mod FitLemmas
pub mod MisfitLemmas
