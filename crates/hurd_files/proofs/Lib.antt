pub mod FilesLaws
pub mod AccessLaws
