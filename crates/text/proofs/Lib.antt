pub mod Filling
pub mod Widths
