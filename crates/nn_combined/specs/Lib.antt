pub mod Combined
