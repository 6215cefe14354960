pub mod Bits
pub mod FileOf
pub mod Kept
pub mod Layout
pub mod Opening
pub mod Verdict
pub mod Writing
