pub mod Fold
pub mod Undoing
