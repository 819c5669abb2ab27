pub mod KindLaws
pub mod LayoutLaws
pub mod ChunkLaws
pub mod RecordLaws
pub mod RoundTripLaws
