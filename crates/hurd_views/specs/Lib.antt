pub mod Views
pub mod Marks
