pub mod Requests
pub mod Answers
pub mod Pairs
pub mod Samples
