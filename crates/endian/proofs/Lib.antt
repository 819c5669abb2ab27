pub mod PartLaws
pub mod NumberLaws
pub mod EightLaws
pub mod ZeroLaws
