pub mod Bytes
pub mod Joined
pub mod Locality
pub mod Lent
