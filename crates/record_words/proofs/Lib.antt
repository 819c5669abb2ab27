pub mod NumberLaws
pub mod ReadBackLaws
pub mod RecordLaws
