pub mod Checks
pub mod Calls
pub mod Named
pub mod Demands
