pub mod Ends
pub mod Fates
pub mod Fronts
pub mod Giving
pub mod Lives
pub mod Pipes
pub mod Waiters
pub mod Windows
