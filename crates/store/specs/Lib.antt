pub mod Records
pub mod Head
pub mod Chain
pub mod Sound
pub mod Change
