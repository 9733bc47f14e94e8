pub mod HearLemmas
pub mod ReachLemmas
pub mod SendLemmas
