-- The laws of the program's buffers.
pub mod Laws
