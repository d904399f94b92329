pub mod Answering
pub mod Codec
pub mod FileRecords
pub mod Headers
pub mod Records
