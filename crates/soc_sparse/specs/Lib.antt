pub mod Sparse
