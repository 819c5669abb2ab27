pub mod Search
pub mod RemovingSearch
pub mod Linked
