mod ChildLemmas
mod FitLemmas
mod GroupLemmas
mod HashRows
mod HeldLemmas
mod InOrderLemmas
mod JsonLemmas
mod KnownLemmas
mod LimitLemmas
pub mod NumberingLemmas
mod OwnerLemmas
mod PlacedLemmas
mod ReasonLemmas
mod RouteLemmas
mod SoundLemmas
mod TargetLemmas
