-- `Laws`: the step lies in [0, αmax] where no entry is below zero. `Unique`: each public call leaves one result. `Worked`: document 01's lines,
-- computed.
pub mod Laws
pub mod Unique
pub mod Worked
