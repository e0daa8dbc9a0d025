-- `Blocks`: how long a block is at most. `Placed`: what a call over a place has where it is not refused.
pub mod Blocks
pub mod Placed
