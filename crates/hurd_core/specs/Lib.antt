pub mod Core
pub mod Control
pub mod ToMake
pub mod PortNode
pub mod Branches
pub mod Users
