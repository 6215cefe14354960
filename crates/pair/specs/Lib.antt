pub mod Fitting
pub mod Kept
pub mod Parts
pub mod Rows
pub mod Sides
