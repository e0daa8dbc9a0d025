-- `Laws`: of two axpby one after the other.
pub mod Laws
