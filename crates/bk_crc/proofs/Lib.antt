pub mod Words
pub mod Bounds
pub mod Linear
pub mod Table
