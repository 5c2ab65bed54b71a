-- What stands in the buffer that is written.
pub mod Replies
