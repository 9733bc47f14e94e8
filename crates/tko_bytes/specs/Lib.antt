pub mod Addresses
pub mod Fields
pub mod Hashes
pub mod Lines
pub mod Numbers
pub mod Words
