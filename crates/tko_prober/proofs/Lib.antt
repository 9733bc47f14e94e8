pub mod BegunLemmas
mod DelayLemmas
mod HalfLemmas
pub mod ProberLemmas
pub mod RoundLemmas
