pub mod Renamed
pub mod Target
