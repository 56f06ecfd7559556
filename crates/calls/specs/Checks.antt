-- The checks of the calls (R2.1): each is a test and the answer where it does not pass. The table of R2.3 to R2.13 is
-- `asks` of Calls.antt.
use Rattle.std.specs.Prelude.{ℕ, Bool, true, false, not, cond, List, [], ◌∷◌, ltb, eqb, Option, Some, None, Result, Ok, Err}
use Rattle.numbers.specs.declared.Era.{Era}
use Rattle.numbers.specs.declared.answers.Answer.{Answer}
use Rattle.numbers.specs.declared.Slot.{Slot}
use Rattle.numbers.specs.Sizes.{clients, slots, cells, era_stop}
use Rattle.block.specs.declared.Standing.{Standing}
use Rattle.block.specs.declared.store.Store.{Store}
use Rattle.block.specs.Block.{cell_at}
use Rattle.stages.specs.declared.Outcome.{Outcome}
use Rattle.stages.specs.Stages.{is_idle}
use Rattle.rescue.specs.Search.{lowest_full}
use Rattle.calls.specs.declared.Records.{Records}

-- a check: whether it passes, and the answer where it does not
pub record Check : Type 0 where
  pub passes : Bool
  pub refusal : Answer

-- an answer that leaves everything as it was
abbrev pub unchanged : Answer → Records → Outcome Records
unchanged answer given = record { answer = answer; next = given; store = Store.Nothing }

-- R2.14: so does every refusal of a check
abbrev pub refused : Answer → Records → Outcome Records
refused answer given = unchanged answer given

-- R2.1: the first check that does not pass is the answer; where all pass, the call is accepted
abbrev pub after_checks : List Check → Records → Outcome Records → Outcome Records
after_checks [] given accepted = accepted
after_checks (check ∷ rest) given accepted =
    cond check.passes (after_checks rest given accepted) (refused check.refusal given)

-- a check as the code asks it: nothing more where it passes, else the answer
abbrev pub checked : Check → Result (Unit {0}) Answer
checked check = cond check.passes (Ok tt) (Err check.refusal)

-- R2.1: what the checks of a list let through: x where all pass, else the answer of the first that does not
abbrev pub let_through : {A : Type 0} → List Check → A → Result A Answer
let_through [] x = Ok x
let_through (check ∷ rest) x = cond check.passes (let_through rest x) (Err check.refusal)

-- the outcome of what was let through, or the refusal
abbrev pub settled : Records → Result (Outcome Records) Answer → Outcome Records
settled given (Ok accepted) = accepted
settled given (Err answer) = refused answer given

-- R2.14, 1 to 3: a client, a cell, a slot that there is
abbrev pub a_client : ℕ → Check
a_client c = record { passes = ltb c clients; refusal = Answer.NoSuchClient }

abbrev pub a_cell : ℕ → Check
a_cell k = record { passes = ltb k cells; refusal = Answer.NoSuchCell }

abbrev pub a_slot : ℕ → Check
a_slot s = record { passes = ltb s slots; refusal = Answer.NoSuchSlot }

-- R1.2: the four standings told apart
abbrev pub standing_code : Standing → ℕ
standing_code Standing.Absent = 0
standing_code Standing.Running = 1
standing_code Standing.Failed = 2
standing_code Standing.InRescue = 3

abbrev pub same_standing : Standing → Standing → Bool
same_standing asked found = eqb (standing_code found) (standing_code asked)

-- R2.14, 4: the standing that was found is the one asked for
abbrev pub stands : Standing → Standing → Check
stands asked found = record { passes = same_standing asked found; refusal = Answer.WrongStanding }

-- R2.14, 5: nothing, or something, is under way
abbrev pub nothing_under_way : Records → Check
nothing_under_way given = record { passes = is_idle given.client; refusal = Answer.WrongMoment }

abbrev pub something_under_way : Records → Check
something_under_way given = record { passes = not (is_idle given.client); refusal = Answer.WrongMoment }

abbrev pub is_empty : Option Slot → Bool
is_empty None = true
is_empty (Some s) = false

-- R2.14, 6: cell k of client c is empty, or full
abbrev pub cell_empty : List ℕ → ℕ → ℕ → Check
cell_empty bytes c k = record { passes = is_empty (cell_at bytes c k); refusal = Answer.WrongCell }

abbrev pub cell_full : List ℕ → ℕ → ℕ → Check
cell_full bytes c k = record { passes = not (is_empty (cell_at bytes c k)); refusal = Answer.WrongCell }

-- R2.14, 9: the own era is below the era stop
abbrev pub below_era_stop : Era → Check
below_era_stop own = record { passes = ltb own.0 era_stop; refusal = Answer.AtEraStop }

abbrev pub found_nothing : Option (ℕ × Slot) → Bool
found_nothing None = true
found_nothing (Some (k, s)) = false

-- R2.14, 10: no cell of client c holds a slot
abbrev pub no_entries : List ℕ → ℕ → Check
no_entries bytes c = record { passes = found_nothing (lowest_full bytes c); refusal = Answer.StillHolding }
