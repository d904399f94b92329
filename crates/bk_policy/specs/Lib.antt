pub mod Due
pub mod Settings
pub mod Reading
