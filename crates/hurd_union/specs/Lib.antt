pub mod Merge
pub mod There
pub mod Union
