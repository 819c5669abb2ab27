pub mod Entries
pub mod After
