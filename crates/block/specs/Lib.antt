pub mod Block
pub mod Matrix
pub mod Store
pub mod Lent
