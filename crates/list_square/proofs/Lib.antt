-- `Unique`: a contract leaves one result.
pub mod Unique
