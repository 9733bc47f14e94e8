pub mod SoftLemmas
pub mod WordLemmas
mod WordRows
