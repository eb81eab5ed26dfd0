pub mod Json
pub mod Fields
pub mod Replies
pub mod Lines
pub mod Vectors
pub mod Ways
