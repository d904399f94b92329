pub mod Points
pub mod Listings
pub mod Answers
pub mod Refusals
pub mod Exchanges
pub mod Sessions
pub mod Writes
pub mod OneThread
