pub mod Search
pub mod Rescue
