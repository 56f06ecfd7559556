pub mod Cases
pub mod Impostors
pub mod Variant
pub mod Traps
