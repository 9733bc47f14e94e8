pub mod Answers
pub mod Pages
pub mod Scrapes
pub mod Visits
