pub mod Labels
pub mod Found
pub mod Nodes
pub mod Servers
pub mod Tasks
pub mod Pictures
pub mod Laws
