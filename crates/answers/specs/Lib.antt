pub mod Place
pub mod Output
