pub mod Ids
pub mod Stopping
pub mod Texts
