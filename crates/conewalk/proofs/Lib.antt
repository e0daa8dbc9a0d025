-- `Walked`: the walk comes to document 01's place. `Laid`: the cones of a list lie one behind another.
pub mod Walked
pub mod Laid
