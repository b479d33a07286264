pub mod Productions
pub mod Sequence
pub mod Resolved
pub mod Reader
