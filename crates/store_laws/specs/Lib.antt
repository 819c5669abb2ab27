pub mod Lists
pub mod Standing
