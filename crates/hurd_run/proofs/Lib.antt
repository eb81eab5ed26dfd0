pub mod AskedLaws
pub mod WayLaws
pub mod SilenceLaws
pub mod ComplaintLaws
