-- The definitions that the contracts of `elements` cite.
pub mod Field
pub mod Closest
pub mod Reading
pub mod Accepted
pub mod Rounding
