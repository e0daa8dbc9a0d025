-- `Laws`: where the lengths fit. `Unique`: a contract leaves one result.
pub mod Laws
pub mod Unique
