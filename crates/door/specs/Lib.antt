-- The definitions of the door.
pub mod Answer
pub mod Door
