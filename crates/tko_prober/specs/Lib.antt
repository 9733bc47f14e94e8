pub mod Delay
pub mod Ghosts
pub mod Halves
pub mod Probers
pub mod Probes
pub mod Round
pub mod Servers
