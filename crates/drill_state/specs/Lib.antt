pub mod Turn
pub mod Drill
pub mod Feeding
pub mod Position
pub mod Steps
