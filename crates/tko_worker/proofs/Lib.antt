pub mod ActedLemmas
mod AheadLemmas
pub mod ChangesLemmas
mod CountLemmas
mod GaveUpLemmas
mod KeptLemmas
mod ListedLemmas
mod NotedLemmas
mod NumbersLemmas
mod ReachLemmas
mod RestLemmas
mod ServedLemmas
mod TakenLemmas
mod TakingLemmas
mod TurnLemmas
