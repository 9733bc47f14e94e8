pub mod Health
pub mod LockFree
pub mod Locked
pub mod Seating
