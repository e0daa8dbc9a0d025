-- `Layout`: document 01's list, where each cone lies, and its refusals.
pub mod Layout
