pub mod Within
pub mod Laws
pub mod Along
