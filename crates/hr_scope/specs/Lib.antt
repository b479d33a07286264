pub mod Once
pub mod Declarers
