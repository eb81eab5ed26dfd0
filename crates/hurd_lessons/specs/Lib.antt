pub mod Changes
pub mod Values
pub mod Seen
pub mod Differences
pub mod Lessons
pub mod Added
pub mod Beside
pub mod Told
