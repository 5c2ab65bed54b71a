-- The table of the marked cases.
pub mod Marked
