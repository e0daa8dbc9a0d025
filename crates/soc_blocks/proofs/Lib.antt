-- `Columns`: the upper triangle by columns, and the law of the loop that writes it. `Laws`: of the block. `Unique`: a contract leaves one
-- result. `Worked`: examples, computed.
pub mod Columns
pub mod Laws
pub mod Unique
pub mod Worked
