pub mod Held
pub mod Boot
pub mod BootPort
pub mod Noting
