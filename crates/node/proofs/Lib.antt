pub mod Array
pub mod Answered
