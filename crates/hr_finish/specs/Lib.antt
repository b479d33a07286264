pub mod Compared
pub mod Endings
pub mod Renamed
