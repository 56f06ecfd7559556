-- `Determined` has that a statement of this form allows one outcome.
-- `Impostors` has what shuts each impostor out.
-- `Variant` has that with no rule broken the machine is that of the rules.
-- `Traps` has that demand 3 fails with each of the rules of part 7 broken.
pub mod Determined
pub mod Impostors
pub mod Variant
pub mod Traps
