-- `Every` has the laws of a test of every element of a list.
pub mod Every
