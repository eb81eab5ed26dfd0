pub mod Owned
pub mod Controls
pub mod Fsys
pub mod Aims
pub mod Setting
pub mod Starting
