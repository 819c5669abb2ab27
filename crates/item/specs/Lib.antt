pub mod Counter
pub mod Maxima
pub mod Item
pub mod Row
