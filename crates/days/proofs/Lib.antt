-- The laws of the totals by day.
pub mod Bools
pub mod Counting
pub mod Orderly
pub mod Touched
pub mod Records
pub mod Updates
pub mod Adding
pub mod Sames
pub mod Pieces
pub mod Working
pub mod Longer
pub mod Cases
pub mod Sums
pub mod Ours
pub mod Answered
pub mod Only
pub mod Promises
