pub mod WordLemmas
pub mod LineLaws
