-- `Laws`: lengths over n.
pub mod Laws
