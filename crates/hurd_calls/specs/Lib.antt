pub mod Making
pub mod Faults
pub mod Readings
pub mod Tasks
pub mod Lists
pub mod Running
