pub mod ConnectLemmas
pub mod ExchangeLemmas
mod HitLemmas
pub mod IncomingLemmas
pub mod PartLemmas
pub mod ReceiveLemmas
mod ScriptedLemmas
pub mod SendLemmas
pub mod WiredLemmas
