pub mod Belonging
pub mod Walking
pub mod Passing
