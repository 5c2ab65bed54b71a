-- The laws that the proofs of `geometry`, and of the crates above it, cite.
pub mod Bounds
pub mod Told
pub mod Elsewhere
pub mod Only
