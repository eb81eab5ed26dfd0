pub mod CallingLaws
pub mod WayLaws
