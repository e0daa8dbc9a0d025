-- `Rearranged`: sequences of calls. `Local`: a deed done on one cone of a list, over a store of named buffers.
pub mod Rearranged
pub mod Local
