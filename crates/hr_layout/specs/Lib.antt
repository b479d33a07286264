pub mod Innermost
pub mod Standing
