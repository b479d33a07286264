pub mod Lasts
pub mod Laws
pub mod Openings
pub mod Patterns
