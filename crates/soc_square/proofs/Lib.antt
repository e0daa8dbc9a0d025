-- `Laws`: the square block against the packed one. `Unique`: a contract leaves one result. `Worked`: examples, computed.
pub mod Laws
pub mod Unique
pub mod Worked
