pub mod Accepting
pub mod Allotments
pub mod FirstAsks
