pub mod IoLaws
pub mod RowLaws
pub mod OpensLaws
pub mod PlaceLaws
pub mod SharingLaws
pub mod Touching
