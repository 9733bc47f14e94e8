pub mod Closing
pub mod Enrolments
pub mod History
pub mod Opening
pub mod Passes
pub mod Rule
pub mod Steps
