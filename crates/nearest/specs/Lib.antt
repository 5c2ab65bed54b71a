-- The definitions that the contracts of `nearest` cite.
pub mod Nearest
pub mod Pattern
