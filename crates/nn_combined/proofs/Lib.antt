-- `Laws`: lengths over n. `Unique`: the public call leaves one result. `Worked`: examples, computed.
pub mod Laws
pub mod Unique
pub mod Worked
