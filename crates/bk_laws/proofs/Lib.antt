mod WireRows
pub mod LastWrites
pub mod RecordBytes
