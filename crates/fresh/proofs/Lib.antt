-- `Unique`: two results that a contract allows are equal.
pub mod Unique
