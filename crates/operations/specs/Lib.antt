pub mod Operation
pub mod Run
pub mod Refusal
pub mod Claim
pub mod Simulation
pub mod Fits
