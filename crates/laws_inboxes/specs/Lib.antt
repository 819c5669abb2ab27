pub mod Inbox
pub mod Sent
pub mod Laws
