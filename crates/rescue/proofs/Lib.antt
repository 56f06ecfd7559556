-- `Lowest` has the laws of the search for the lowest full cell, `Answers` what a rescue step answers.
pub mod Lowest
pub mod Answers
