mod LeaveLemmas
mod WalkLemmas
