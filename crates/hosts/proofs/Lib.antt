pub mod Names
pub mod Says
pub mod Sizes
pub mod Totals
pub mod Core
pub mod Maps
pub mod Tables
pub mod Arrivals
