pub mod RosterLemmas
pub mod SlotLemmas
