-- `Swap` has the laws of two slots exchanged.
pub mod Swap
