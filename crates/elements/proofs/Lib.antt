-- The laws that the proofs of `elements`, and of the crates above it, cite.
pub mod Range
pub mod Ranges
pub mod Sterbenz
pub mod Distance
pub mod Rows
pub mod Exactly
pub mod Bounds
pub mod Only
