pub mod Between
pub mod Actions
pub mod Lines
pub mod Drills
pub mod Loans
pub mod Shown
pub mod Progress
pub mod Running
