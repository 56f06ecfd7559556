-- Demands 1 and 2 as statements about the definition that the public call's contract cites, `checked_call`.
use Rattle.std.specs.Prelude.{ℕ, zero, suc, ◌<◌, Bool, true, false, List, [], ◌∷◌, ◌≡◌}
use Rattle.numbers.specs.declared.answers.Answer.{Answer}
use Rattle.numbers.specs.Sizes.{clients}
use Rattle.block.specs.declared.Block.{Block}
use Rattle.block.specs.declared.Standing.{Standing}
use Rattle.block.specs.Block.{standing_at}
use Rattle.block.specs.Store.{block_after, eras_after}
use Rattle.stages.specs.declared.Stage.{Stage}
use Rattle.limits.specs.Limits.{within}
use Rattle.calls.specs.declared.Call.{Call}
use Rattle.calls.specs.declared.Records.{Records}
use Rattle.calls.specs.Calls.{checked_call}
use Rattle.calls.specs.Named.{take_over, rescue_step}

-- R2.14: the answers that leave everything: 1 to 6, 9 to 13, 199 and 200 up
abbrev pub leaves_everything : Answer → Bool
leaves_everything Answer.Accepted = false
leaves_everything Answer.NoSuchClient = true
leaves_everything Answer.NoSuchCell = true
leaves_everything Answer.NoSuchSlot = true
leaves_everything Answer.WrongStanding = true
leaves_everything Answer.WrongMoment = true
leaves_everything Answer.WrongCell = true
leaves_everything Answer.SlotHeld = false
leaves_everything Answer.SlotFree = false
leaves_everything Answer.AtEraStop = true
leaves_everything Answer.StillHolding = true
leaves_everything Answer.BeyondLimits = true
leaves_everything Answer.NoSuchCall = true
leaves_everything Answer.CutRecord = true
leaves_everything Answer.Finished = false
leaves_everything Answer.SwapLost = false
leaves_everything Answer.ShowsNothing = true
leaves_everything (Answer.Shows s) = true

-- R2.14: 7 and 8, which leave the shared words and end the operation
abbrev pub ends_operation : Answer → Bool
ends_operation Answer.Accepted = false
ends_operation Answer.NoSuchClient = false
ends_operation Answer.NoSuchCell = false
ends_operation Answer.NoSuchSlot = false
ends_operation Answer.WrongStanding = false
ends_operation Answer.WrongMoment = false
ends_operation Answer.WrongCell = false
ends_operation Answer.SlotHeld = true
ends_operation Answer.SlotFree = true
ends_operation Answer.AtEraStop = false
ends_operation Answer.StillHolding = false
ends_operation Answer.BeyondLimits = false
ends_operation Answer.NoSuchCall = false
ends_operation Answer.CutRecord = false
ends_operation Answer.Finished = false
ends_operation Answer.SwapLost = false
ends_operation Answer.ShowsNothing = false
ends_operation (Answer.Shows s) = false

-- the records with the client's operation ended
abbrev pub ended : Records → Records
ended given = record { client = record { stage = Stage.Idle }; rescuer = given.rescuer }

-- D1: what a call that is refused leaves, for any numbers, any block, any matrix and any records
pub record Demand1 (call : Call) (b : Block) (eras : List (List ℕ)) (given : Records) : Type 0 where
  pub leaves_block :
      leaves_everything (checked_call call b eras given).answer ≡ true →
      block_after (checked_call call b eras given).store b ≡ b
  pub leaves_eras :
      leaves_everything (checked_call call b eras given).answer ≡ true →
      eras_after (checked_call call b eras given).store eras ≡ eras
  pub leaves_records :
      leaves_everything (checked_call call b eras given).answer ≡ true → (checked_call call b eras given).next ≡ given
  pub ends_block :
      ends_operation (checked_call call b eras given).answer ≡ true →
      block_after (checked_call call b eras given).store b ≡ b
  pub ends_eras :
      ends_operation (checked_call call b eras given).answer ≡ true →
      eras_after (checked_call call b eras given).store eras ≡ eras
  pub ends_the_operation :
      ends_operation (checked_call call b eras given).answer ≡ true → (checked_call call b eras given).next ≡ ended given

-- what a rescuer of client c has been answered, and the shared words that it leaves
pub record Seen : Type 0 where
  pub answers : List Answer
  pub block : Block
  pub eras : List (List ℕ)

-- R4.9: the answers and shared words of n rescue steps of client c, from given shared words and records
unfoldable pub rescue_steps : ℕ → ℕ → Block → List (List ℕ) → Records → List Answer → Seen
rescue_steps zero c b eras given answers = record { answers = answers; block = b; eras = eras }
rescue_steps (suc n) c b eras given answers =
    let o = checked_call (rescue_step c) b eras given in
    rescue_steps n c (block_after o.store b) (eras_after o.store eras) o.next (o.answer ∷ answers)

-- R4.9: a take over of client c and n rescue steps after it
unfoldable pub taken_over : ℕ → ℕ → Block → List (List ℕ) → Records → Seen
taken_over n c b eras given =
    let o = checked_call (take_over c) b eras given in
    rescue_steps n c (block_after o.store b) (eras_after o.store eras) o.next (o.answer ∷ [])

-- D2: a rescuer knows only what lies in shared memory: shared words with client c failed give its new rescuer the same
-- answers and the same shared words, step after step, whatever the private words were
unfoldable pub KnowsOnlySharedWords : Type 0
KnowsOnlySharedWords =
    (n c : ℕ) (b : Block) (eras : List (List ℕ)) (given other : Records) →
    c < clients →
    standing_at b.standings c ≡ Standing.Failed →
    within c b eras given.client given.rescuer ≡ true →
    within c b eras other.client other.rescuer ≡ true →
    taken_over n c b eras given ≡ taken_over n c b eras other
