-- The machine of the rules with one of them broken, for each trap of part 7 of the rules. A trap is one part of the
-- machine, written as what it does otherwise than the part of the rules; `breaking` puts it in that part's place.
use Rattle.std.specs.Prelude.{ℕ, Bool, cond, ◌&&◌, List, [], ◌∷◌, leb, eqb, get_or, set, replicate}
use Rattle.std.specs.List.{list_all}
use Rattle.numbers.specs.declared.Client.{Client}
use Rattle.numbers.specs.declared.answers.Answer.{Answer}
use Rattle.numbers.specs.Sizes.{clients, era_limit}
use Rattle.header.specs.Header.{count_in}
use Rattle.block.specs.declared.Block.{Block}
use Rattle.block.specs.declared.Standing.{Standing}
use Rattle.block.specs.declared.store.Store.{Store}
use Rattle.block.specs.Block.{fresh_block, header_at, cell_at}
use Rattle.block.specs.Matrix.{own_era}
use Rattle.block.specs.Store.{eras_after}
use Rattle.stages.specs.declared.ClientRecord.{ClientRecord}
use Rattle.stages.specs.declared.Stage.{Stage}
use Rattle.stages.specs.declared.Outcome.{Outcome}
use Rattle.stages.specs.Stages.{went, won, swap_by, step_of, place_of, idle}
use Rattle.rescue.specs.declared.RescuerRecord.{RescuerRecord}
use Rattle.rescue.specs.declared.RescuerStep.{RescuerStep}
use Rattle.rescue.specs.Rescue.{onward, as_rescue}
use Rattle.limits.specs.Limits.{block_within, stage_within, rescue_within, within}
use Rattle.calls.specs.declared.Act.{Act}
use Rattle.calls.specs.declared.Records.{Records}
use Rattle.calls.specs.Checks.{same_standing, unchanged, after_checks}
use Rattle.calls.specs.Calls.{client, of_client, of_rescuer, shown, checks, effect, stage_of}
use Rattle.world.specs.World.{World, Machine, fresh, fresh_records, rules}
use Rattle.history.specs.Ledger.{at_swap, wins_at}
use Rattle.traps.specs.Cases.{of_act, of_stage, of_rescue, of_store}

-- R1.12: whether the words that a call of a client is given are within their limits
abbrev pub LimitFunction : Type 0
LimitFunction = ℕ → Block → List (List ℕ) → ClientRecord → RescuerRecord → Bool

-- R2.3 to R2.13: what an accepted call does for a client
abbrev pub EffectFunction : Type 0
EffectFunction = Act → ℕ → Block → List (List ℕ) → Records → Outcome Records

-- R3.0: how a stage is performed for a client
abbrev pub StepFunction : Type 0
StepFunction = Client → Block → List (List ℕ) → Stage → Outcome ClientRecord

-- R7.1: own eras begin at 0, not at 1 (R1.5)
unfoldable pub fresh_from_zero : World
fresh_from_zero = record { block = fresh_block; eras = replicate clients (replicate clients 0); records = fresh_records }

-- R7.1: an own era of 0 is then within the limits
unfoldable pub within_from_zero : LimitFunction
within_from_zero c b eras client rescuer =
    block_within b
    && (list_all (list_all (λ (e : ℕ). leb e era_limit)) eras
    && (stage_within client.stage && rescue_within c rescuer.step))

-- R7.2: the step that comes next: for condition 1 condition 2, past its last client condition 1, and then the search
abbrev pub asked_next : Client → RescuerStep → RescuerStep → RescuerStep
asked_next c step next =
    of_rescue
    (λ e. onward c e 0)
    (λ e. of_rescue (λ f. RescuerStep.Search) (λ f. next) next next step)
    (of_rescue (λ e. next) RescuerStep.Condition1 next next step)
    next
    next

-- R7.2: condition 2 is asked ahead of condition 1, not after it (R4.7)
abbrev pub asks_second_first : EffectFunction
asks_second_first act c b eras given =
    let o = effect act c b eras given in
    let next = asked_next (client c) given.rescuer.step o.next.rescuer.step in
    of_act o
    (of_rescuer (record { answer = o.answer; next = record { step = next }; store = o.store }) given)
    (λ k. o)
    o
    act

-- R7.3: the matrix with all that client c has seen of others wiped
abbrev pub wiped : ℕ → List (List ℕ) → List (List ℕ)
wiped c eras = set eras c (set (replicate clients 0) c (own_era eras c).0)

-- R7.3: the row of a client that becomes absent, by leaving or at the end of its rescue, does not stay (R2.16)
abbrev pub wipes_rows : Store → List (List ℕ) → List (List ℕ)
wipes_rows store eras =
    let after = eras_after store eras in
    of_store (λ s w. after) (λ c to. cond (same_standing Standing.Absent to) (wiped c.0 after) after) after store

-- an accepted call whose stage, a client's or that of its rescuer's release, is performed by another function
abbrev pub stepping : StepFunction → EffectFunction
stepping performs act c b eras given =
    let o = effect act c b eras given in
    let s = performs (client c) b eras (stage_of act given) in
    cond (idle (stage_of act given)) o (of_act (of_client s given) (of_rescuer (as_rescue s) given) (λ k. o) o act)

-- R7.4: a swap is won where the counts are equal, not the whole headers (R3.4)
abbrev pub same_count : ℕ → ℕ → Bool
same_count header h = eqb (count_in header) (count_in h)

-- R7.4: a stage of the rules, but a swap is won by its count
abbrev pub compares_counts : StepFunction
compares_counts me b eras stage =
    let s = step_of me b.headers eras stage in
    let wins = wins_at same_count (header_at b.headers) stage in
    cond (at_swap stage) (of_stage (λ op h. swap_by me op h (own_era eras me.0) wins) s stage) s

-- R7.5: the stage that comes next, by its number: for the note the log, for the log the cell, for the cell the note
abbrev pub noted_later : Stage → Stage
noted_later next =
    of_stage
    (λ op h.
    get_or (next ∷ next ∷ Stage.Log op h ∷ Stage.Cell op h ∷ next ∷ Stage.Note op h ∷ []) (place_of next) next)
    next
    next

-- R7.5: the note comes after the swap, not ahead of it (R3.2, R3.4)
abbrev pub notes_after_swap : StepFunction
notes_after_swap me b eras stage =
    let s = step_of me b.headers eras stage in
    went s.answer (noted_later s.next.stage) s.store

-- R7.6: a look up shows a cell that is being released, and does not hide it (R2.17)
abbrev pub shows_released : EffectFunction
shows_released act c b eras given =
    let o = effect act c b eras given in
    of_act o o (λ k. unchanged (shown (cell_at b.cells c k)) given) o act

-- the machine of these parts; the checks of its calls are those of the rules
abbrev pub machine_of :
    World → LimitFunction → EffectFunction → (Store → List (List ℕ) → List (List ℕ)) → (ℕ → ℕ → Bool) → Machine
machine_of start limits does matrix_after wins =
    record {
      start = start;
      call = λ call b eras given.
          cond (limits call.client b eras given.client given.rescuer)
          (after_checks (checks call b eras given) given (does call.act call.client b eras given))
          (unchanged Answer.BeyondLimits given);
      matrix_after = matrix_after;
      limits = limits;
      wins = wins;
    }

-- R7: with 0 no rule is broken, with n the one that R7.n warns about
abbrev pub breaking : ℕ → Machine
breaking n =
    get_or
    (machine_of fresh within effect eras_after won
    ∷ machine_of fresh_from_zero within_from_zero effect eras_after won
    ∷ machine_of fresh within asks_second_first eras_after won
    ∷ machine_of fresh within effect wipes_rows won
    ∷ machine_of fresh within (stepping compares_counts) eras_after same_count
    ∷ machine_of fresh within (stepping notes_after_swap) eras_after won
    ∷ machine_of fresh within shows_released eras_after won
    ∷ [])
    n rules
