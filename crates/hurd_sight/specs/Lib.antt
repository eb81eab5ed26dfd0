pub mod Reach
pub mod Found
pub mod Parts
pub mod Looks
