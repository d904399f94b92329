pub mod FirstRecords
pub mod RowEdits
pub mod Rows
pub mod Standing
pub mod Scanning
