-- `Walk`: the turns of the walk over the records.
pub mod Walk
