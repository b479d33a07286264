pub mod Heads
pub mod Nodes
