-- Demand 3, over every history of calls from a fresh block, clients and rescuers failing after any step. A reader of
-- this file needs World.antt (what a history is) and Ledger.antt (the ledger, from the history alone). Its parts (a),
-- (b) and (d) are said of any machine, all of it of the machine of the rules.
use Rattle.std.specs.Prelude.{ℕ, ◌+◌, ◌<◌, ◌≤◌, true, false, cond, List, [], ◌∷◌, ◌≡◌, None}
use Rattle.numbers.specs.declared.answers.Answer.{Answer}
use Rattle.numbers.specs.Sizes.{clients, slots, cells, era_limit, count_limit}
use Rattle.header.specs.Header.{count_in}
use Rattle.block.specs.declared.Standing.{Standing}
use Rattle.block.specs.Block.{header_at, cell_at, standing_at}
use Rattle.block.specs.Matrix.{own_era}
use Rattle.stages.specs.Stages.{is_idle}
use Rattle.calls.specs.declared.Call.{Call}
use Rattle.calls.specs.Checks.{is_empty, refused}
use Rattle.calls.specs.Named.{release, step, fail, take_over, rescue_step, look_up}
use Rattle.world.specs.World.{World, Machine, rules, records_at, answer_by, after_by, run_by, fresh, outcome, answer, after, run}
use Rattle.history.specs.Ledger.{Line, ledger_by, ledger, naming, shown_by, swaps_won, past_swap}

-- the standing of client c in a world
abbrev pub standing : World → ℕ → Standing
standing w c = standing_at w.block.standings c

-- client c's own era in a world
abbrev pub era : World → ℕ → ℕ
era w c = (own_era w.eras c).0

-- no line of the ledger is client c's
abbrev pub NoLines : ℕ → List Line → Type 0
NoLines c [] = Unit {0}
NoLines c (l ∷ rest) = (l.client ≡ c → ⊥) × NoLines c rest

-- every cell of client c is empty
abbrev pub NoEntries : ℕ → World → Type 0
NoEntries c w = (k : ℕ) → k < cells → cell_at w.block.cells c k ≡ None

-- D3 (a), (b) and (d) of a machine, for one history: w is the world and lines the ledger that it leads to
pub record KeepsAt (m : Machine) (w : World) (lines : List Line) : Type 0 where
  -- (a) each slot's count equals the number of ledger lines that name it
  pub count : (s : ℕ) → s < slots → count_in (header_at w.block.headers s) ≡ naming s lines
  -- (b) a look up of a running client shows a line once its cell is written until its release opens, and nothing else
  pub lookup :
      (c k : ℕ) →
      c < clients →
      k < cells →
      standing w c ≡ Standing.Running →
      answer_by m w (look_up c k) ≡ shown_by c k lines
  -- (d) a rescue that answers 100 leaves the client no entries and no lines
  pub rescue_leaves_nothing :
      (c : ℕ) →
      c < clients →
      standing w c ≡ Standing.InRescue →
      answer_by m w (rescue_step c) ≡ Answer.Finished →
      NoEntries c (after_by m w (rescue_step c)) × NoLines c lines

-- D3 (a), (b) and (d) of a machine after a history of its own
abbrev pub Keeps : Machine → List Call → Type 0
Keeps m h = KeepsAt m (run_by m m.start h) (ledger_by m m.start [] h)

-- D3, for one history h of the rules: w is the world and lines the ledger that it leads to
pub record Holds (h : List Call) (w : World) (lines : List Line) : Type 0 where
  -- (a), (b) and (d)
  pub keeps : KeepsAt rules w lines
  -- no history goes beyond its limits: no call answers 11, counts and own eras stay below theirs
  pub within : (call : Call) → answer w call ≡ Answer.BeyondLimits → ⊥
  pub counts_within : (s : ℕ) → count_in (header_at w.block.headers s) ≤ count_limit
  pub eras_within : (c : ℕ) → era w c ≤ era_limit
  -- a client can always let go of what it holds, whatever its era
  pub lets_go :
      (c k : ℕ) →
      c < clients →
      k < cells →
      standing w c ≡ Standing.Running →
      is_idle (records_at w.records c).client ≡ true →
      is_empty (cell_at w.block.cells c k) ≡ false →
      answer w (release c k) ≡ Answer.Accepted
  -- the premises: only a running client takes a step, and only a failed one gets a rescuer
  pub only_running_steps :
      (c : ℕ) →
      (standing w c ≡ Standing.Running → ⊥) →
      c < clients →
      outcome w (step c) ≡ refused Answer.WrongStanding (records_at w.records c)
  pub only_failed_taken_over :
      (c : ℕ) →
      (standing w c ≡ Standing.Failed → ⊥) →
      c < clients →
      outcome w (take_over c) ≡ refused Answer.WrongStanding (records_at w.records c)
  pub only_in_rescue_rescued :
      (c : ℕ) →
      (standing w c ≡ Standing.InRescue → ⊥) →
      c < clients →
      outcome w (rescue_step c) ≡ refused Answer.WrongStanding (records_at w.records c)

-- D3 (c): client c runs in w and fails; after any calls that follow its rescue answers 100, however many rescuers died
-- on the way. Completing an operation is what raises the own era. It has then risen by one for each swap that was won
-- for c since, and by one more exactly where the operation open at the failure had won its swap: that operation was
-- completed, and none was that had not won
unfoldable pub CompletesExactlyWhenWon : Type 0
CompletesExactlyWhenWon =
    (h later : List Call) (c : ℕ) →
    c < clients →
    let w = run fresh h in
    let end = run (after w (fail c)) later in
    standing w c ≡ Standing.Running →
    standing end c ≡ Standing.InRescue →
    answer end (rescue_step c) ≡ Answer.Finished →
    era (after end (rescue_step c)) c
    ≡ era w c + swaps_won c (after w (fail c)) later + cond (past_swap (records_at w.records c).client.stage) 1 0

-- demand 3, whole
pub record Demand3 : Type 0 where
  pub holds : (h : List Call) → Holds h (run fresh h) (ledger fresh [] h)
  pub completes_exactly_when_won : CompletesExactlyWhenWon
