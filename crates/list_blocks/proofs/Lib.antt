-- `Laws`: how long a kind's block is. `Unique`: a contract leaves one result.
pub mod Laws
pub mod Unique
