pub mod Headers
pub mod Lists
pub mod Stated
