pub mod Places
pub mod Projects
pub mod Steps
