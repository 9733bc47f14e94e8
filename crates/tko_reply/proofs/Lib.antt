pub mod AnsweringLemmas
mod AskingLemmas
pub mod CutLemmas
pub mod DrivingLemmas
pub mod GoingLemmas
pub mod HeldLemmas
pub mod InteractionLemmas
pub mod JoiningLemmas
mod OutboxLemmas
pub mod PieceLemmas
pub mod ReachLemmas
pub mod ResultLemmas
pub mod StandsLemmas
mod StatusLemmas
mod TurnLemmas
mod ValuesLemmas
