mod HealthLemmas
mod LockFreeLemmas
mod LockedLemmas
pub mod SeatingLemmas
