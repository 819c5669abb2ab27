pub mod Kind
pub mod Layout
pub mod Chunk
pub mod Record
pub mod RoundTrip
