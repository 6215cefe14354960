pub mod Structure
pub mod Next
pub mod Paths
