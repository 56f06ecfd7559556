-- `Laws` has what the crates above may use of a header: never the bits, always these.
pub mod Laws
