-- Demand 3, in the order in which it is built.
-- `Updates` has one value of a function replaced by another.
-- `Counting` has the lines of a ledger counted, and the pigeonhole over the cells.
-- `Invariant` says what holds of every world of a history, over functions and not over lists.
-- `Frame` has that all others keep their words where one client moves.
-- `Moves` has the six moves of a client or of its rescuer.
-- `Stores` has what the one store of a call changes, over functions.
-- `Steps` has which move each stage of an operation is.
-- `Rescues` has which move each step of a rescue is.
-- `View` sees a world as those functions, and a store of the world as a store of the view.
-- `Outcomes` has that a call is accepted and has its effect, or leaves everything.
-- `Effects` has which move each accepted call is.
-- `Histories` carries the invariant, and the number of swaps won, along a list of calls.
-- `Fresh` has the invariant of the fresh world.
-- `Limits` has that no world of a history is beyond its limits.
-- `Answers` has that 11 is answered for nothing else.
-- `Completion` has what a rescue leaves, and that it completes exactly the won operation.
-- `Theorem` has demand 3.
pub mod Updates
pub mod Counting
pub mod Invariant
pub mod Frame
pub mod Moves
pub mod Stores
pub mod Steps
pub mod Rescues
pub mod View
pub mod Outcomes
pub mod Effects
pub mod Histories
pub mod Fresh
pub mod Limits
pub mod Answers
pub mod Completion
pub mod Theorem
