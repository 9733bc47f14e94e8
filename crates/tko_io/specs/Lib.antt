pub mod Calls
pub mod Clocks
pub mod Io
pub mod Pieces
pub mod Tape
