pub mod Flags
pub mod Words
pub mod Calls
pub mod Figures
pub mod Lines
