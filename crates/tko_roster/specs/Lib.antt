pub mod Rosters
pub mod Tagged
