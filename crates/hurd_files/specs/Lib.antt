pub mod Files
pub mod Access
pub mod Listing
