pub mod Texts
pub mod Language
pub mod Numbers
pub mod Reader
pub mod Laws
pub mod Progress
