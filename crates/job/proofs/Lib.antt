-- The laws of one job. Promises has what is promised of it.
pub mod Laws
pub mod Cases
pub mod Exactly
pub mod Parts
pub mod Roomy
pub mod Admits
pub mod Written
pub mod Promises
pub mod Only
