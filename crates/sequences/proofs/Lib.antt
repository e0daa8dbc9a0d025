-- `Rearrange`: the theorem over any store that can be seen cone by cone. `Local`: deeds on one cone are separate. `Contract`: a task comes to what
-- its call's contract says.
pub mod Rearrange
pub mod Local
pub mod Contract
