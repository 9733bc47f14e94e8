pub mod Failures
pub mod Sockets
