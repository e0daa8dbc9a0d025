-- `Laws`: lengths over n. `Unique`: each public call leaves one result.
pub mod Laws
pub mod Unique
