-- What stands in the input's buffer, what is handed over, and the status of a run that failed.
pub mod Buffer
pub mod Answered
pub mod Status
