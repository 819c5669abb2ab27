pub mod Sent
pub mod Steps
pub mod Calls
pub mod Deliveries
pub mod Acts
