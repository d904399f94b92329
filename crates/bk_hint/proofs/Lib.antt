pub mod Heads
pub mod RowTexts
pub mod HintTexts
pub mod Walks
pub mod Answering
pub mod RowsLeftBehind
pub mod Adding
pub mod RoundTrips
