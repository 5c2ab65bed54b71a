-- The laws of the input: its buffer, and the turns that read it.
pub mod Laws
pub mod Turns
pub mod Known
pub mod Only
