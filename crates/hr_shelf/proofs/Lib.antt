pub mod FileMap
pub mod NameLists
pub mod Scan
pub mod Streams
