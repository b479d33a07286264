pub mod Graph
pub mod Rows
pub mod Strong
pub mod Ready
pub mod Levels
pub mod Cycle
pub mod Modules
pub mod Groups
