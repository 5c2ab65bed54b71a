-- The laws that the proofs of `kepler`, and of the crates above it, cite.
pub mod Laws
pub mod Keeps
pub mod Shortcut
pub mod Stored
pub mod Only
