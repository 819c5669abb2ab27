pub mod Merged
pub mod Agree
