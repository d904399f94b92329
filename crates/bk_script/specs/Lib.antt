pub mod Lines
pub mod Script
pub mod Words
pub mod Front
pub mod Printed
