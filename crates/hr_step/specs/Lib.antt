pub mod Blocks
pub mod Kept
pub mod Lexemes
pub mod Names
pub mod Trivia
