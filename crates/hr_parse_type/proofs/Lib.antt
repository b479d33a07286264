pub mod Heads
pub mod Types
