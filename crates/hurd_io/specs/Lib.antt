pub mod Io
pub mod Opens
pub mod Sharing
