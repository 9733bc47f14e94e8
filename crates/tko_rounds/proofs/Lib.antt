mod ProbeLemmas
pub mod RoundLemmas
mod VisitLemmas
