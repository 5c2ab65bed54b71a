-- The definitions of `halving`.
pub mod Halving
pub mod Foretold
