pub mod Reading
pub mod ReplyReading
pub mod FoundReply
pub mod Replies
pub mod Room
pub mod Found
pub mod Stream
pub mod Answers
