pub mod Renamed
pub mod Pairings
pub mod Looks
