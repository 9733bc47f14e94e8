pub mod Calls
pub mod Routing
pub mod Trail
pub mod Underway
