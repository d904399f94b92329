pub mod Catalog
pub mod Rows
pub mod Files
pub mod Errors
pub mod Scan
