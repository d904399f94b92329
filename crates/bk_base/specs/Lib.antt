pub mod Blanks
pub mod Bounds
pub mod KeyBytes
pub mod Names
pub mod Status
pub mod Places
