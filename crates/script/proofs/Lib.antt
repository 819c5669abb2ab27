pub mod NumberReading
pub mod Writing
pub mod Reading
pub mod Examples
pub mod Gathered
