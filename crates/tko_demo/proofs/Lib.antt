pub mod HearLemmas
pub mod PlayLemmas
pub mod SceneLemmas
pub mod ShowLemmas
pub mod StoreLemmas
pub mod StoryLemmas
pub mod VisitLemmas
