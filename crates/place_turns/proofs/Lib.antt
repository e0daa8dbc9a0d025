-- `Records`: what the tests of a record and of a walk's step say.
pub mod Records
