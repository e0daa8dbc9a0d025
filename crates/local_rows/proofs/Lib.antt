-- `Unique`: one answer each.
pub mod Unique
