pub mod Placing
pub mod Printing
pub mod Examples
