pub mod WireLemmas
mod PortLemmas
mod ShareLemmas
