pub mod Bytes
pub mod Number
pub mod Digits
pub mod Line
pub mod Operated
pub mod LineBuffer
