pub mod Product
