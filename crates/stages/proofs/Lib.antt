-- `Cases` has the cases of a step and of a stage, `ByKind` what differs by the kind of an operation. Who reasons about a
-- step goes by these laws and opens neither a stage nor a kind.
pub mod Cases
pub mod ByKind
