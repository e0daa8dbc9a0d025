-- `Laws`: lengths over n. `Unique`: a contract leaves one result.
pub mod Laws
pub mod Unique
