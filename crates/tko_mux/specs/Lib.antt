pub mod Asks
pub mod Awaits
pub mod Giving
pub mod Lines
pub mod Linking
pub mod Muxes
