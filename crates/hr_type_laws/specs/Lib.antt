pub mod Blanks
pub mod Laws
pub mod Lexed
pub mod Scopes
