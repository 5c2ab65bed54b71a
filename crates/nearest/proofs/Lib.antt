-- The laws that the proofs of `nearest`, and of the crates above it, cite.
pub mod Nearest
pub mod Exact
pub mod Only
