pub mod AwaitsLemmas
mod GivingLemmas
mod LeaveLemmas
mod LineLemmas
mod LinkingLemmas
mod MuxLemmas
mod OverdueLemmas
mod ReadLemmas
