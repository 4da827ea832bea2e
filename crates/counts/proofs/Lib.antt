-- `News` has the laws by which the entries that a replacement leaves are counted.
pub mod News
