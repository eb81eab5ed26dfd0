pub mod Answers
pub mod Asked
pub mod Ended
pub mod PairEnded
