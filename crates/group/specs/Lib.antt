pub mod SetUp
pub mod Perform
