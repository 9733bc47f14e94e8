pub mod Desk
pub mod Ledger
