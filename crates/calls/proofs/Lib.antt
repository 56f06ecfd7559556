-- `LetThrough` joins checks asked one after the other to their list, `Cases` has the cases of a call, `Refusals` proves demand 1, `Rescuer` that a rescuer knows only what lies in shared
-- memory.
pub mod LetThrough
pub mod Cases
pub mod Refusals
pub mod Rescuer
