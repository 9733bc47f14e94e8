pub mod Parts
pub mod Probes
pub mod Rounds
pub mod Workers
