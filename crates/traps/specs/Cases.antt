-- The cases of an act, a stage, a rescue step and a store that a trap or an impostor treats otherwise than the rules;
-- all the others of each are one case.
use Rattle.std.specs.Prelude.{ℕ, Option, Some, None}
use Rattle.numbers.specs.declared.Client.{Client}
use Rattle.numbers.specs.declared.Slot.{Slot}
use Rattle.block.specs.declared.Entry.{Entry}
use Rattle.block.specs.declared.Operation.{Operation}
use Rattle.block.specs.declared.Standing.{Standing}
use Rattle.block.specs.declared.store.Store.{Store}
use Rattle.stages.specs.declared.Stage.{Stage}
use Rattle.stages.specs.Stages.{open_in, kept_in}
use Rattle.rescue.specs.declared.RescuerStep.{RescuerStep}
use Rattle.calls.specs.declared.Act.{Act}

module _ {A : Type 0} where
  -- an act: a step, a rescue step, a look up of a cell, or another
  abbrev pub of_act : A → A → (ℕ → A) → A → Act → A
  of_act step rescue look other Act.Join = other
  of_act step rescue look other Act.Leave = other
  of_act step rescue look other (Act.Lease k s) = other
  of_act step rescue look other (Act.Attach k s) = other
  of_act step rescue look other (Act.Release k) = other
  of_act step rescue look other Act.Step = step
  of_act step rescue look other Act.Fail = other
  of_act step rescue look other Act.TakeOver = other
  of_act step rescue look other Act.RescueStep = rescue
  of_act step rescue look other Act.RescuerFails = other
  of_act step rescue look other (Act.LookUp k) = look k

  -- an open operation that keeps a header, or none
  abbrev pub of_kept : (Operation → ℕ → A) → A → Option Operation → Option ℕ → A
  of_kept keeps other None kept = other
  of_kept keeps other (Some op) None = other
  of_kept keeps other (Some op) (Some h) = keeps op h

  -- a stage: one whose operation keeps a header, or another
  abbrev pub of_stage : (Operation → ℕ → A) → A → Stage → A
  of_stage keeps other stage = of_kept keeps other (open_in stage) (kept_in stage)

  -- a rescue step: condition 1, condition 2, the search, or another
  abbrev pub of_rescue : (Entry → A) → (Entry → A) → A → A → RescuerStep → A
  of_rescue one two search other RescuerStep.ReadLog = other
  of_rescue one two search other (RescuerStep.Condition1 e) = one e
  of_rescue one two search other (RescuerStep.Condition2 e j) = two e
  of_rescue one two search other (RescuerStep.Cell e) = other
  of_rescue one two search other RescuerStep.Era = other
  of_rescue one two search other RescuerStep.Search = search
  of_rescue one two search other (RescuerStep.Release r) = other

  -- a store: of a header, of a standing, or another
  abbrev pub of_store : (Slot → ℕ → A) → (Client → Standing → A) → A → Store → A
  of_store header standing other Store.Nothing = other
  of_store header standing other (Store.Header s w) = header s w
  of_store header standing other (Store.Cell c k held) = other
  of_store header standing other (Store.Log c e) = other
  of_store header standing other (Store.Era i j e) = other
  of_store header standing other (Store.Standing c s) = standing c s
