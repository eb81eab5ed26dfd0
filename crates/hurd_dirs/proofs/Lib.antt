pub mod EntryLaws
pub mod MakeLaws
pub mod LinkLaws
pub mod ClimbLaws
pub mod RenameLaws
pub mod RemoveLaws
pub mod FileLaws
