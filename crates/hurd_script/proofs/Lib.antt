pub mod ScriptLemmas
pub mod UsageLemmas
pub mod ListLemmas
pub mod ActionLemmas
pub mod LetterLemmas
pub mod SettransLemmas
pub mod SettingLemmas
pub mod TextLemmas
