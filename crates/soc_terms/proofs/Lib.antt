-- `Laws`: the root scale of w, and lengths over n.
pub mod Laws
