pub mod Playing
pub mod Turns
pub mod Stepping
pub mod Slots
pub mod Same
pub mod Determined
