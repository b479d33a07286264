pub mod Primitives
pub mod Texts
