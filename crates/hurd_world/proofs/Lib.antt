pub mod BootLaws
pub mod FirstPorts
pub mod FirstWorld
pub mod RowLaws
pub mod RunLaws
pub mod NotingLaws
