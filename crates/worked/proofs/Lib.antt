-- `Worked`: document 01's T lines, computed.
pub mod Worked
