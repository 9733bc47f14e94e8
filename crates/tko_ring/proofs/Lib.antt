pub mod CrcLemmas
pub mod DigestLemmas
pub mod KeyPartLemmas
pub mod MovementLemmas
pub mod OwnerLemmas
pub mod PointLemmas
pub mod RingLemmas
