pub mod Residual
