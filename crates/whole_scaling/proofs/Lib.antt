-- `Laws`: a turn of the walk. `Walked`: it comes to the single calls. `Singles`: so does what is left of it, behind each cone. `Unique`: the contract
-- leaves one result. `Worked`: lines, computed.
pub mod Laws
pub mod Walked
pub mod Singles
pub mod Unique
pub mod Worked
