-- `Laws`: the step lies in [0, αmax]. `Mended`: along a direction of residual 0 it is document 02's. `Unique`: each public call leaves one
-- result. `Worked`: worked lines, computed.
pub mod Laws
pub mod Mended
pub mod Unique
pub mod Worked
