-- The cases of a call: a check refuses it, or it does what it does once accepted. Who reasons about every call goes by
-- these. Assumes nothing.
use Prim.Native.Nat.{ℕ}
use mathlib.Core.List.{List, [], ◌∷◌}
use Rattle.std.proofs.lemmas.Bool.{cond_both}
use Rattle.numbers.specs.declared.answers.Answer.{Answer}
use Rattle.block.specs.declared.Block.{Block}
use Rattle.block.specs.declared.store.Store.{Store}
use Rattle.block.specs.Block.{log_at}
use Rattle.stages.specs.declared.Outcome.{Outcome}
use Rattle.stages.specs.Stages.{step_of}
use Rattle.rescue.specs.Rescue.{rescue_of}
use Rattle.calls.specs.declared.Act.{Act}
use Rattle.calls.specs.declared.Records.{Records}
use Rattle.calls.specs.Checks.{Check, unchanged, refused, after_checks}
use Rattle.calls.specs.Calls.{client, accepted, of_client, of_rescuer, shows_cell, asks, effect, checks, plain_call}

module _ (P : Outcome Records → Type 0) (given : Records) where
  -- it holds of the refusal of every check of a list
  abbrev pub Refuses : List Check → Type 0
  Refuses [] = Unit {0}
  Refuses (check ∷ rest) = P (unchanged check.refusal given) × Refuses rest

  -- then it holds of the call that asks them
  pub after_checks_lem : (list : List Check) (o : Outcome Records) → Refuses list → P o → P (after_checks list given o)
  after_checks_lem [] o r a = a
  after_checks_lem (check ∷ rest) o r a =
      cond_both check.passes (after_checks rest given o) (refused check.refusal given) P
      (λ e. after_checks_lem rest o r.1 a)
      (λ e. r.0)

  module _ (one : P (unchanged Answer.NoSuchClient given)) (two : P (unchanged Answer.NoSuchCell given))
      (three : P (unchanged Answer.NoSuchSlot given)) (four : P (unchanged Answer.WrongStanding given))
      (five : P (unchanged Answer.WrongMoment given)) (six : P (unchanged Answer.WrongCell given))
      (nine : P (unchanged Answer.AtEraStop given)) (ten : P (unchanged Answer.StillHolding given)) (b : Block)
      (eras : List (List ℕ)) (c : ℕ) where
    -- R2.3 to R2.13: the checks refuse with 1 to 6, 9 and 10
    asks_refuse : (act : Act) → Refuses (asks act c b eras given)
    unfolding asks
    asks_refuse Act.Join = (four, tt)
    asks_refuse Act.Leave = (four, (five, (ten, tt)))
    asks_refuse (Act.Lease k s) = (two, (three, (four, (five, (six, (nine, tt))))))
    asks_refuse (Act.Attach k s) = (two, (three, (four, (five, (six, (nine, tt))))))
    asks_refuse (Act.Release k) = (two, (four, (five, (six, tt))))
    asks_refuse Act.Step = (four, (five, tt))
    asks_refuse Act.Fail = (four, tt)
    asks_refuse Act.TakeOver = (four, tt)
    asks_refuse Act.RescueStep = (four, tt)
    asks_refuse Act.RescuerFails = (four, tt)
    asks_refuse (Act.LookUp k) = (two, (four, tt))

    module _ (accepts : (r : Records) (store : Store) → P (accepted r store))
        (steps : P (of_client (step_of (client c) b.headers eras given.client.stage) given))
        (rescues :
        P
        (of_rescuer
        (rescue_of (client c) b.headers b.cells (log_at b.logs c) eras given.rescuer.step)
        given))
        (shows : (k : ℕ) → P (shows_cell c k b.cells given)) where
      -- R2.3 to R2.13: an accepted call answers 0, or is a step, a rescue step or a look up
      effect_cases : (act : Act) → P (effect act c b eras given)
      unfolding effect
      effect_cases Act.Join = accepts _ _
      effect_cases Act.Leave = accepts _ _
      effect_cases (Act.Lease k s) = accepts _ _
      effect_cases (Act.Attach k s) = accepts _ _
      effect_cases (Act.Release k) = accepts _ _
      effect_cases Act.Step = steps
      effect_cases Act.Fail = accepts _ _
      effect_cases Act.TakeOver = accepts _ _
      effect_cases Act.RescueStep = rescues
      effect_cases Act.RescuerFails = accepts _ _
      effect_cases (Act.LookUp k) = shows k

      -- every call of words within their limits
      pub plain_cases : (act : Act) → P (plain_call (record { client = c; act = act }) b eras given)
      unfolding plain_call
      plain_cases act =
          after_checks_lem (checks (record { client = c; act = act }) b eras given) (effect act c b eras given)
          (one, asks_refuse act)
          (effect_cases act)
