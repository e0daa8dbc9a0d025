-- `Product`: a product by the halves of its factors.
pub mod Product
