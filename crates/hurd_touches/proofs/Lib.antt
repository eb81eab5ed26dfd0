pub mod AddsLaws
pub mod EntryLaws
pub mod PortLaws
pub mod UnnoticedLaws
