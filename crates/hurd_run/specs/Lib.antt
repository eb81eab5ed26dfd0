pub mod Faults
pub mod Silence
