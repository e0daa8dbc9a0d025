-- `Law`: one law of all walks of a lent row of records. `Indexed`: over the records is over their indices.
pub mod Law
pub mod Indexed
