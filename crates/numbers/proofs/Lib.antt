-- `Checked` has what a number's check tells: the test passed and which number it was, or that it did not pass.
-- `Called` has what a branch on the result of a test tells.
pub mod Checked
pub mod Called
