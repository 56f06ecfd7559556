-- `Situations` proves that every situation of the table comes about.
pub mod Situations
