pub mod Parts
pub mod Sorts
pub mod Complaints
