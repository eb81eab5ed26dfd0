pub mod Programs
pub mod Looking
pub mod Openings
