-- What the program writes for a record.
pub mod Reply
