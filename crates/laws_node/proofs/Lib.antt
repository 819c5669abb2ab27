pub mod Outcome
pub mod GivesBack
pub mod LeftAlone
pub mod Counters
pub mod OwnItem
pub mod Every
pub mod PhaseCases
pub mod SoundRows
pub mod Soundly
pub mod SoundMessages
pub mod Sound
mod Tables
