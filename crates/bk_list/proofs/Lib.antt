pub mod SortedRows
pub mod Calls
pub mod Gathers
pub mod Gets
pub mod Prints
pub mod Wholes
