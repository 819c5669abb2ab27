pub mod Taking
pub mod Feeds
pub mod Whole
