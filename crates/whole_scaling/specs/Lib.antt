-- `List`: the call. `Walk`: how the code goes over the records.
pub mod List
pub mod Walk
