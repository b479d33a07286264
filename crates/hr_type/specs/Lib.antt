pub mod Grammar
pub mod Heads
pub mod Inside
pub mod Jobs
pub mod Matching
pub mod Sizes
pub mod Spelling
pub mod Types
