pub mod Effects
pub mod Entries
pub mod Places
pub mod Edits
pub mod Listings
pub mod Either
pub mod Left
pub mod Stays
