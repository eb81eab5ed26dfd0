pub mod Moments
pub mod Differences
pub mod Lines
pub mod Pairs
pub mod Steps
pub mod Reports
pub mod Whole
pub mod Told
