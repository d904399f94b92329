pub mod Crc
pub mod Slices
