pub mod Calls
pub mod Closing
pub mod History
pub mod Owned
pub mod Running
pub mod Seated
pub mod Tries
