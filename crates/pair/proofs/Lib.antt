pub mod BesideLaws
pub mod Moving
pub mod Stepping
