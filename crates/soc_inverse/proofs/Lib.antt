-- `Laws`: lengths over n. `Unique`: a contract leaves one result. `Worked`: examples, computed.
pub mod Laws
pub mod Unique
pub mod Worked
