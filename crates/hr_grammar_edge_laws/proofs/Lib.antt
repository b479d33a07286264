pub mod Openings
pub mod Plain
pub mod Stretches
pub mod PartStretches
pub mod Modules
pub mod Lasts
pub mod PartLasts
pub mod Patterns
