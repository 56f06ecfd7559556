-- The ledger of demand 3 (D3): kept from the history alone. A won lease or attach swap, by a client or by its rescuer,
-- enters a line; the won release swap strikes it out. Beside it each line says whether its cell has been written and
-- whether its release has been opened, as the calls of the history did. Nothing here reads a count or a cell. It is
-- kept of any machine; of the machine of the rules it has the short names.
use Rattle.std.specs.Prelude.{ℕ, ◌+◌, Bool, true, false, cond, ◌&&◌, List, [], ◌∷◌, map, eqb, ltb, Option, Some, None}
use Rattle.numbers.specs.declared.answers.Answer.{Answer}
use Rattle.block.specs.declared.Operation.{Operation}
use Rattle.block.specs.Block.{header_at}
use Rattle.stages.specs.declared.Stage.{Stage}
use Rattle.stages.specs.Stages.{is_release, open_in, kept_in, place_of, idle}
use Rattle.calls.specs.declared.Call.{Call}
use Rattle.calls.specs.declared.Records.{Records}
use Rattle.calls.specs.Checks.{Check}
use Rattle.calls.specs.Calls.{checks, stage_of}
use Rattle.world.specs.World.{World, Machine, rules, records_at, outcome_by, after_by}

-- what has become of a line since its swap was won: its cell is not yet written, its cell is written, its release has
-- been opened
pub data Phase : Type 0 where
  pending visible closing : Phase

-- a line: who holds which slot in which cell
pub record Line : Type 0 where
  pub client : ℕ
  pub cell : ℕ
  pub slot : ℕ
  pub phase : Phase

-- the line that client c's operation enters or strikes out
abbrev pub line_of : ℕ → Operation → Line
line_of c op = record { client = c; cell = op.cell; slot = op.slot.0; phase = pending }

-- whether a line is of client c and cell k
abbrev pub is_entry : ℕ → ℕ → Line → Bool
is_entry c k l = eqb l.client c && eqb l.cell k

-- whether a line is of client c, cell k and slot s
abbrev pub is_line : ℕ → ℕ → ℕ → Line → Bool
is_line c k s l = is_entry c k l && eqb l.slot s

-- D3: the won release swap strikes out the line of its client, cell and slot
unfoldable pub struck : ℕ → Operation → List Line → List Line
struck c op [] = []
struck c op (l ∷ rest) = cond (is_line c op.cell op.slot.0 l) rest (l ∷ struck c op rest)

-- a line, in another phase where it is of client c and cell k
abbrev pub in_phase : Phase → ℕ → ℕ → Line → Line
in_phase phase c k l =
    cond (is_entry c k l) (record { client = l.client; cell = l.cell; slot = l.slot; phase = phase }) l

-- the ledger with the lines of client c and cell k in another phase
unfoldable pub phased : Phase → ℕ → ℕ → List Line → List Line
phased phase c k lines = map (in_phase phase c k) lines

-- D3: a won lease or attach swap enters a line, a won release swap strikes it out
abbrev pub won_by : ℕ → Option Operation → List Line → List Line
won_by c None lines = lines
won_by c (Some op) lines = cond (is_release op.kind) (struck c op lines) (line_of c op ∷ lines)

-- D3: the lines of a cell that is written
abbrev pub written_by : ℕ → Option Operation → List Line → List Line
written_by c None lines = lines
written_by c (Some op) lines = phased visible c op.cell lines

-- D3: the lines of a cell whose release a call opens: nothing was under way before it, and the release is after it
abbrev pub opened_by : ℕ → Stage → Option Operation → List Line → List Line
opened_by c before None lines = lines
opened_by c before (Some op) lines =
    cond (is_release op.kind && idle before) (phased closing c op.cell lines) lines

-- R3.4: whether a stage is the swap
abbrev pub at_swap : Stage → Bool
at_swap stage = eqb (place_of stage) 4

-- R3.5: whether a stage is the cell
abbrev pub at_cell : Stage → Bool
at_cell stage = eqb (place_of stage) 5

-- R3.4: whether an operation stands past its swap: it has won it, and its era is not yet raised
abbrev pub past_swap : Stage → Bool
past_swap stage = ltb 4 (place_of stage)

-- R3.4: whether the swap of an open operation is won, by what `wins` says of its slot's header and the kept one
abbrev pub wins_over : (ℕ → ℕ → Bool) → (ℕ → ℕ) → Option Operation → Option ℕ → Bool
wins_over wins hdr None kept = false
wins_over wins hdr (Some op) None = false
wins_over wins hdr (Some op) (Some h) = wins (hdr op.slot.0) h

-- whether a stage performs a won swap
abbrev pub wins_at : (ℕ → ℕ → Bool) → (ℕ → ℕ) → Stage → Bool
wins_at wins hdr stage = at_swap stage && wins_over wins hdr (open_in stage) (kept_in stage)

-- D3: the ledger after a stage performed for client c, given the headers
abbrev pub by_stage : (ℕ → ℕ → Bool) → (ℕ → ℕ) → ℕ → Stage → List Line → List Line
by_stage wins hdr c stage lines =
    cond (wins_at wins hdr stage)
    (won_by c (open_in stage) lines)
    (cond (at_cell stage) (written_by c (open_in stage) lines) lines)

-- R2.1: every check of the list passes
abbrev pub all_pass : List Check → Bool
all_pass [] = true
all_pass (check ∷ rest) = check.passes && all_pass rest

-- the records that a call is given
abbrev pub given_to : World → Call → Records
given_to w call = records_at w.records call.client

module _ (m : Machine) where
  -- R2.1, R2.2: a call is accepted where the given words are within their limits and every check passes
  abbrev pub accepts_by : World → Call → Bool
  accepts_by w call =
      m.limits call.client w.block w.eras (given_to w call).client (given_to w call).rescuer
      && all_pass (checks call w.block w.eras (given_to w call))

  -- R3.0, R4.6: the stage that a call performs
  unfoldable pub performed_by : World → Call → Stage
  performed_by w call = cond (accepts_by w call) (stage_of call.act (given_to w call)) Stage.Idle

  -- D3: the ledger after a call
  unfoldable pub entered_by : World → Call → List Line → List Line
  entered_by w call lines =
      opened_by call.client (given_to w call).client.stage (open_in (outcome_by m w call).next.client.stage)
      (by_stage m.wins (header_at w.block.headers) call.client (performed_by w call) lines)

  -- D3: the ledger after a list of calls
  unfoldable pub ledger_by : World → List Line → List Call → List Line
  ledger_by w lines [] = lines
  ledger_by w lines (call ∷ rest) = ledger_by (after_by m w call) (entered_by w call lines) rest

  -- whether a call wins a swap of client c, by the client itself or by its rescuer
  abbrev pub wins_by : ℕ → World → Call → Bool
  wins_by c w call = eqb call.client c && wins_at m.wins (header_at w.block.headers) (performed_by w call)

  -- how many swaps of client c a list of calls wins
  unfoldable pub swaps_won_by : ℕ → World → List Call → ℕ
  swaps_won_by c w [] = 0
  swaps_won_by c w (call ∷ rest) = cond (wins_by c w call) 1 0 + swaps_won_by c (after_by m w call) rest

-- the same of the machine of the rules
abbrev pub accepts : World → Call → Bool
accepts = accepts_by rules

abbrev pub performed : World → Call → Stage
performed = performed_by rules

abbrev pub entered : World → Call → List Line → List Line
entered = entered_by rules

abbrev pub ledger : World → List Line → List Call → List Line
ledger = ledger_by rules

abbrev pub wins : ℕ → World → Call → Bool
wins = wins_by rules

abbrev pub swaps_won : ℕ → World → List Call → ℕ
swaps_won = swaps_won_by rules

-- how many lines name slot s
unfoldable pub naming : ℕ → List Line → ℕ
naming s [] = 0
naming s (l ∷ rest) = cond (eqb l.slot s) 1 0 + naming s rest

-- whether the cell of a line is written and its release not opened
abbrev pub is_visible : Phase → Bool
is_visible pending = false
is_visible visible = true
is_visible closing = false

-- D3: what the ledger has a look up of client c's cell k answer: 200 + the slot of a line whose cell is written and
-- whose release has not been opened, and 199 otherwise
unfoldable pub shown_by : ℕ → ℕ → List Line → Answer
shown_by c k [] = Answer.ShowsNothing
shown_by c k (l ∷ rest) =
    cond (is_entry c k l && is_visible l.phase) (Answer.Shows (record { 0 = l.slot })) (shown_by c k rest)
