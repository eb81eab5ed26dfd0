pub mod Answers
pub mod Trials
pub mod Witnesses
pub mod Finding
pub mod Laws
