-- `Laws`: how the walk over the row goes.
pub mod Laws
