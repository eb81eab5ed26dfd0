pub mod Sittings
pub mod Replies
pub mod Openings
pub mod Watching
pub mod Staged
pub mod Kept
pub mod Laws
