-- A history of calls (R1.10): from a fresh block, each call is given the block and the records last handed back. What a
-- history is, is said of any machine; the machine of the rules is `rules`, and what is said of it has the short names.
use Rattle.std.specs.Prelude.{ℕ, Bool, List, [], ◌∷◌, get_or, set, replicate}
use Rattle.numbers.specs.declared.answers.Answer.{Answer}
use Rattle.numbers.specs.Sizes.{clients}
use Rattle.block.specs.declared.Block.{Block}
use Rattle.block.specs.declared.store.Store.{Store}
use Rattle.block.specs.Block.{fresh_block}
use Rattle.block.specs.Matrix.{fresh_eras}
use Rattle.block.specs.Store.{block_after, eras_after}
use Rattle.stages.specs.declared.ClientRecord.{ClientRecord}
use Rattle.stages.specs.declared.Outcome.{Outcome}
use Rattle.stages.specs.Stages.{won}
use Rattle.rescue.specs.declared.RescuerRecord.{RescuerRecord}
use Rattle.limits.specs.Limits.{within}
use Rattle.calls.specs.declared.Call.{Call}
use Rattle.calls.specs.declared.Records.{Records}
use Rattle.calls.specs.Calls.{nothing, checked_call}

-- the shared words, and every client's private words
pub record World : Type 0 where
  pub block : Block
  pub eras : List (List ℕ)
  pub records : List Records

-- the records of client c; of a client that there is none, records with nothing under way
abbrev pub records_at : List Records → ℕ → Records
records_at records c = get_or records c nothing

-- the records after a call handed back those of client c
abbrev pub records_after : List Records → ℕ → Records → List Records
records_after records c next = set records c next

-- R1.8: before the first call nothing is under way
abbrev pub fresh_records : List Records
fresh_records = replicate clients nothing

-- R1.5, R1.8: the world before the first call
unfoldable pub fresh : World
fresh = record { block = fresh_block; eras = fresh_eras; records = fresh_records }

-- what a call answers, hands back and writes
abbrev pub CallFunction : Type 0
CallFunction = Call → Block → List (List ℕ) → Records → Outcome Records

-- what two machines may differ in
pub record Machine : Type 0 where
  -- the world before the first call
  pub start : World
  pub call : CallFunction
  -- the matrix after a store
  pub matrix_after : Store → List (List ℕ) → List (List ℕ)
  -- whether the words that a call is given are within their limits
  pub limits : ℕ → Block → List (List ℕ) → ClientRecord → RescuerRecord → Bool
  -- whether a swap is won, given the slot's header and the kept one
  pub wins : ℕ → ℕ → Bool

-- the machine of the rules, with another call function
abbrev pub calling : CallFunction → Machine
calling call = record { start = fresh; call = call; matrix_after = eras_after; limits = within; wins = won }

-- the machine of the rules
abbrev pub rules : Machine
rules = calling checked_call

module _ (m : Machine) where
  -- R1.10: what a call answers, hands back and writes in a world
  abbrev pub outcome_by : World → Call → Outcome Records
  outcome_by w call = m.call call w.block w.eras (records_at w.records call.client)

  abbrev pub answer_by : World → Call → Answer
  answer_by w call = (outcome_by w call).answer

  -- R1.10: the world after a call
  unfoldable pub after_by : World → Call → World
  after_by w call =
      let o = outcome_by w call in
      record {
        block = block_after o.store w.block;
        eras = m.matrix_after o.store w.eras;
        records = records_after w.records call.client o.next;
      }

  -- R1.10: the world after a list of calls
  unfoldable pub run_by : World → List Call → World
  run_by w [] = w
  run_by w (call ∷ rest) = run_by (after_by w call) rest

-- R1.10: the same of the machine of the rules
abbrev pub outcome : World → Call → Outcome Records
outcome = outcome_by rules

abbrev pub answer : World → Call → Answer
answer = answer_by rules

abbrev pub after : World → Call → World
after = after_by rules

abbrev pub run : World → List Call → World
run = run_by rules
