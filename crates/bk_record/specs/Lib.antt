pub mod Header
pub mod Stops
