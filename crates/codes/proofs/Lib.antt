-- `Laws`: an enum's answer told as a number. `Unique`: two results that an export's contract allows are equal.
pub mod Laws
pub mod Unique
