pub mod Lists
pub mod Names
pub mod Search
pub mod Yields
