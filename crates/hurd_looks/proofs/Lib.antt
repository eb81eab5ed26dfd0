pub mod MeetLaws
pub mod PairLaws
pub mod SplitLaws
pub mod Lives
pub mod LookLaws
pub mod RowsRenamed
pub mod AlikeLaws
