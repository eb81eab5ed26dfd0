pub mod Entry
pub mod Make
pub mod Link
pub mod Rename
pub mod Remove
pub mod File
