-- `Calls`: the public calls that name one cone, as data. `Sides`: one side's step over a list. `Scaled`: the single scalings of a list, one by one.
-- `Marks`: what a cone's scaling holds, and which call set it last.
pub mod Calls
pub mod Sides
pub mod Scaled
pub mod Marks
