pub mod Known
pub mod Readable
pub mod Ends
