-- The laws of the door.
pub mod Heard
pub mod Laws
pub mod Only
