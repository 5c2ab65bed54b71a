-- The definitions that every promise about refusals uses.
pub mod Refusal
pub mod Rows
