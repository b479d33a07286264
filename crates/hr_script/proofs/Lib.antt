pub mod Pieces
pub mod Letters
pub mod Values
pub mod Numerals
pub mod Commands
pub mod Counts
pub mod Joined
pub mod Scripts
