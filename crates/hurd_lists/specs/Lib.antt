pub mod Words
pub mod Arguments
pub mod Verbs
pub mod Reading
pub mod Calls
pub mod Flaws
pub mod Lists
pub mod Replies
