-- `Laws`: the bits of a double, and loops that fill the first entries of a place.
pub mod Laws
