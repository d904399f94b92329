pub mod History
pub mod Seats
pub mod Rule
pub mod Steps
pub mod Badges
pub mod Handles
pub mod Places
-- for tests and measurement alone
pub mod Pushes
