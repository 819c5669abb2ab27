pub mod Decision
pub mod Fields
pub mod OwnItem
pub mod Laws
pub mod Tables
