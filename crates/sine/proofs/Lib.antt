-- The laws that the proofs of `sine`, and of the crates above it, cite; and `Finer`, about two tables, for readers alone.
pub mod Tabulate
pub mod Along
pub mod Taken
pub mod Finer
pub mod Laws
pub mod Slope
pub mod Only
