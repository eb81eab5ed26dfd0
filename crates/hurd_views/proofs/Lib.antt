pub mod LentLaws
pub mod RowLaws
pub mod ViewLaws
pub mod ToldLaws
pub mod OneView
pub mod StayLaws
pub mod TellLaws
pub mod SeatLaws
