pub mod Held
pub mod Ends
pub mod Calls
pub mod Openings
pub mod Texts
