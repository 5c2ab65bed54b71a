-- The laws that the proofs of `rotation`, and of the crates above it, cite.
pub mod Stored
pub mod Rows
pub mod Only
