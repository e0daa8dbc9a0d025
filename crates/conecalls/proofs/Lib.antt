-- `Ranges`: a cone's own ranges can be lent. `Return`: they come back as the definitions have them.
-- `Parts`: a part of a list that is replaced. `Own`: a cone's own range of a buffer, and a deed's refusals. `Marked`: a deed with a mark.
pub mod Ranges
pub mod Return
pub mod Parts
pub mod Own
pub mod Marked
