-- The definitions of the totals by day.
pub mod Days
pub mod Counts
pub mod Summary
pub mod Given
pub mod Totals
pub mod State
