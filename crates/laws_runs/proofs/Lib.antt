pub mod Inbox
pub mod Bytes
pub mod Messages
pub mod Going
pub mod Keeps
pub mod Numbers
pub mod Runs
mod Moves
mod OwnItems
