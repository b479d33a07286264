pub mod Search
pub mod Yields
