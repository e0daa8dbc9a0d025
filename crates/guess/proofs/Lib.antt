-- `Patterns`: which patterns are no NaN's.
pub mod Patterns
