pub mod Read
pub mod Replaced
pub mod RolledBack
