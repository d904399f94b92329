pub mod Directory
pub mod Errors
pub mod Report
