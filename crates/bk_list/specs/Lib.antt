pub mod Sorting
pub mod Ending
pub mod Gathering
pub mod Printing
pub mod Getting
pub mod Lists
