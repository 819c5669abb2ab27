pub mod Each
pub mod Delivery
pub mod Laws
