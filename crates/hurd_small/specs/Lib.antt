pub mod Lone
pub mod Calls
pub mod Meanings
pub mod FixedKinds
pub mod Fixed
pub mod Kept
