pub mod LoneLaws
pub mod FixedLaws
pub mod KeptLaws
