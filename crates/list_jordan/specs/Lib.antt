pub mod Jordan
