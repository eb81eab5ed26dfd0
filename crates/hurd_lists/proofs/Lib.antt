pub mod ArgumentLemmas
pub mod CallLemmas
pub mod ListLemmas
pub mod ReplyLemmas
pub mod WordLemmas
