pub mod Below
pub mod Conjunctions
pub mod Next
pub mod StillKeeps
pub mod Visited
