pub mod Ends
pub mod OneTarget
pub mod OneTree
pub mod PlainSteps
pub mod Ready
pub mod Rooms
pub mod Runs
pub mod Since
