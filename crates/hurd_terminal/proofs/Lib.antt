pub mod InputLaws
pub mod OutputLaws
pub mod RunLaws
