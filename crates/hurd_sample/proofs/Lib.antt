pub mod WordLaws
pub mod LineLaws
pub mod ScriptLaws
