pub mod Characters
pub mod Classes
pub mod Columns
pub mod Lines
pub mod Positions
