pub mod View
pub mod Decision
