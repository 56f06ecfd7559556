pub mod Situation
pub mod Table
