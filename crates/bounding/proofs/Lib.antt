-- For whoever edits columns by a plan: `Edited` says what stands in a column after a change, and `Takes` how many bounds there are then.
pub mod Edited
pub mod Takes
