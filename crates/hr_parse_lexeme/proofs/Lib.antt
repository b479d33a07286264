pub mod Separators
pub mod Phrases
pub mod Taking
