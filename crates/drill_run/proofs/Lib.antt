pub mod Turns
pub mod Ending
pub mod Whole
