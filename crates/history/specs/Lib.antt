pub mod Ledger
pub mod Demand3
