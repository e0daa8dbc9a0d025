-- `Laws`: of a loop that folds two entries a turn, and of what the pairs hold.
pub mod Laws
