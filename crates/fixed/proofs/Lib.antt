-- The laws that the proofs of `fixed`, and of the crates above it, cite.
pub mod Floor
pub mod Mirrored
pub mod Within
pub mod Machine
pub mod Roots
pub mod Digits
pub mod Lift
pub mod Only
