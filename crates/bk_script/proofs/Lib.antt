pub mod Numbers
pub mod Actions
pub mod Fronts
pub mod Texts
pub mod OneLine
pub mod Standing
