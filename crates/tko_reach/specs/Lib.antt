pub mod Asking
pub mod Connecting
pub mod Kinds
pub mod Printing
pub mod Reaching
