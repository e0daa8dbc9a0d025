-- `Lengths`, `Demand3`: demand 3's first half, for the public calls. `Sides`: its second half, the step over a list. `Needed`: the condition there
-- is needed. `Truth`: what a scaling answers. `Scaled`: the scaling of a whole list, and its single scalings. `Marks`: a scaling is never half-written.
pub mod Lengths
pub mod Demand3
pub mod Sides
pub mod Needed
pub mod Truth
pub mod Scaled
pub mod Marks
