pub mod RowsLaws
pub mod Counted
