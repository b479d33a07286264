pub mod Blanks
pub mod Columns
