pub mod CountedFiles
pub mod CountedRows
pub mod LiveBytes
pub mod Named
pub mod Picked
pub mod Telling
