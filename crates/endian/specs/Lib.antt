pub mod Part
pub mod Number
pub mod Zero
