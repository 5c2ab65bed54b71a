-- The definitions that the contracts of `sine` cite.
pub mod Table
pub mod Sine
