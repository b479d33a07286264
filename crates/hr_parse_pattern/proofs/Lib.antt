pub mod Behind
pub mod Fronts
pub mod Lists
pub mod Names
pub mod Openings
pub mod Patterns
pub mod Shorter
