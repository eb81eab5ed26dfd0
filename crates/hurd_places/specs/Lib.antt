pub mod Places
pub mod Differ
