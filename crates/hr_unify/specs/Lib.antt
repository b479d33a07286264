pub mod Refusals
pub mod Tasks
pub mod Unifiers
pub mod Weights
pub mod Working
