pub mod BegunLaws
pub mod EndedLaws
