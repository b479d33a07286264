-- The walk over all productions of the grammar: what goes over from the items of parts to those of the whole.
pub mod Declarations
pub mod Expressions
pub mod Heads
pub mod Imports
pub mod Lists
pub mod Modules
pub mod Names
pub mod Rules
pub mod TypesAndPatterns
pub mod Without
