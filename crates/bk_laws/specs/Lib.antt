pub mod Log
pub mod History
pub mod Wire
pub mod Record
pub mod Version
pub mod SwapList
pub mod Hint
