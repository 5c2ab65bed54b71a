-- The definitions of one job.
pub mod Table
pub mod Outcome
pub mod Reply
pub mod Admission
