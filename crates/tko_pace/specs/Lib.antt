pub mod ClientTimes
pub mod Lags
pub mod Pacing
pub mod Running
pub mod Silence
pub mod TurnTimes
