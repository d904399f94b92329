pub mod Pairs
pub mod Making
pub mod Putting
pub mod Work
pub mod Filling
