-- `Laws` has what callers may cite of the map.
pub mod Laws
mod Far
