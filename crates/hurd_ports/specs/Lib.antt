pub mod Limits
pub mod Tables
pub mod Steps
pub mod Sound
pub mod Counts
pub mod OpenTables
pub mod Seats
