pub mod ArrivingLemmas
pub mod AskLemmas
pub mod CallLemmas
mod CalledLemmas
pub mod ClientLemmas
pub mod CountLemmas
pub mod GoingLemmas
mod HandedLemmas
pub mod HandingLemmas
pub mod KeysLemmas
mod KeysStandLemmas
pub mod LawLemmas
mod LeavingLemmas
pub mod LivingLemmas
mod ReadsLemmas
pub mod RecordedLemmas
mod SentToLemmas
mod SessionStandsLemmas
mod TakenOnLemmas
pub mod TakingLemmas
mod UnderWayLemmas
