pub mod Scopes
pub mod Found
pub mod Doubles
pub mod Agree
