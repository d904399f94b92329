pub mod Keydir
pub mod Slots
pub mod Folds
pub mod Counts
pub mod Kept
