pub mod Every
pub mod Resting
