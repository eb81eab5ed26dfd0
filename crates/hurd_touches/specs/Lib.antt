pub mod Touched
pub mod Unnoticed
