-- Demand 3: the fields of `Holds` and `Demand3` from the invariant, the limits and the completion of a rescue. Assumes
-- nothing.
use Prim.Native.Nat.{ℕ, ◌<◌, ◌≤◌}
use mathlib.Core.Bool.{true, false, not}
use mathlib.Core.List.{List, [], ◌∷◌}
use mathlib.Core.Logic.{⊎_elim}
use mathlib.Core.Path.{◌≡◌, refl, sym, ap, ◌∙◌}
use native.Mathlib.Omega.{arith}
use lib.Dec.{ltb}
use lib.ListN.{length, get_or, get_or-eq_default}
use borrow.Author.Tests.{lt-ltb, ltb-true, ltb-false}
use Rattle.std.proofs.lemmas.Bool.{cases_Bool, false_from_ne_true}
use Rattle.numbers.specs.declared.answers.Answer.{Answer}
use Rattle.numbers.specs.Sizes.{clients, cells, era_limit}
use Rattle.block.specs.declared.Standing.{Standing}
use Rattle.block.specs.Block.{cell_at}
use Rattle.stages.specs.declared.Outcome.{Outcome}
use Rattle.stages.specs.Stages.{is_idle}
use Rattle.calls.specs.declared.Act.{Act}
use Rattle.calls.specs.declared.Call.{Call}
use Rattle.calls.specs.declared.Records.{Records}
use Rattle.calls.specs.Checks.{Check, same_standing, stands, is_empty, refused}
use Rattle.calls.specs.Calls.{asks, effect, plain_call, checked_call}
use Rattle.calls.specs.Named.{of, release, look_up}
use Rattle.world.specs.World.{World, records_at, fresh, outcome, answer, run}
use Rattle.history.specs.Ledger.{Line, given_to, ledger, shown_by}
use Rattle.history.specs.Demand3.{standing, era, Holds, Demand3}
use Rattle.history.proofs.Invariant.{Won, none}
use Rattle.history.proofs.Outcomes.{accepted_is, checks_of, effect_of, Passed}
use Rattle.history.proofs.Effects.{given, standing_is_lem, clause_of}
use Rattle.history.proofs.Histories.{Good, reached}
use Rattle.history.proofs.Fresh.{fresh_good}
use Rattle.history.proofs.Limits.{few_eras, all_within}
use Rattle.history.proofs.Answers.{never_beyond}
use Rattle.history.proofs.Completion.{accepts_it, no_entries, no_lines_left, completes}

-- another standing than the one asked for does not pass
other_standing : (asked found : Standing) → (found ≡ asked → ⊥) → same_standing asked found ≡ false
other_standing asked found o = false_from_ne_true (same_standing asked found) (λ e. o (standing_is_lem asked found e))

module _ (w : World) (ghosts : ℕ → Won) (lines : List Line) (good : Good w ghosts lines) where
  -- what a call answers whose checks pass
  answers : (call : Call) → Passed (checks_of w call) → answer w call ≡ (effect_of w call).answer
  answers call p = ap (λ (o : Outcome Records). o.answer) (accepted_is w call (accepts_it w ghosts lines good call p))

  -- the look up of a running client shows what the ledger says
  looks :
      (c k : ℕ) → c < clients → k < cells → standing w c ≡ Standing.Running → answer w (look_up c k) ≡ shown_by c k lines
  unfolding asks effect
  looks c k l m s =
      answers (look_up c k) (lt-ltb c clients l, (lt-ltb k cells m, (rw s, tt)))
      ∙ sym ((clause_of w ghosts lines good.inv c l Standing.Running s).2 k m)

  -- the release of a full cell with nothing under way is accepted
  releases :
      (c k : ℕ) →
      c < clients →
      k < cells →
      standing w c ≡ Standing.Running →
      is_idle (records_at w.records c).client ≡ true →
      is_empty (cell_at w.block.cells c k) ≡ false →
      answer w (release c k) ≡ Answer.Accepted
  unfolding asks effect
  releases c k l m s i e =
      answers (release c k)
      (lt-ltb c clients l, (lt-ltb k cells m, (rw s, (i, (ap not e, tt)))))

  -- in a history the checked call is the plain one
  plain : (call : Call) → outcome w call ≡ plain_call call w.block w.eras (given_to w call)
  unfolding checked_call
  plain call = rw (all_within w ghosts lines good call.client)

  -- no call of a history answers 11
  never : (call : Call) → answer w call ≡ Answer.BeyondLimits → ⊥
  never call e =
      never_beyond call w.block w.eras (given_to w call) (ap (λ (o : Outcome Records). o.answer) (sym (plain call)) ∙ e)

  -- an own era is within its limit, whichever client is asked for
  own_within : (c : ℕ) → era w c ≤ era_limit
  own_within c =
      ⊎_elim
      (λ (t : ltb c clients ≡ true). let f = few_eras w ghosts lines good c (ltb-true c clients t) in omega arith)
      (λ (t : ltb c clients ≡ false).
      let m : length w.eras ≤ c = let s = good.shape.eras in let b = ltb-false c clients t in omega arith in
      let e : get_or w.eras c [] ≡ [] = get_or-eq_default w.eras [] m in
      rw e (omega arith))
      (cases_Bool (ltb c clients))

  -- an act that asks first for a standing is refused in every other
  wrong_standing :
      (act : Act) (asked : Standing) (rest : List Check) (c : ℕ) →
      asks act c w.block w.eras (given w c) ≡ stands asked (standing w c) ∷ rest →
      (standing w c ≡ asked → ⊥) →
      c < clients →
      outcome w (of c act) ≡ refused Answer.WrongStanding (given w c)
  unfolding plain_call
  wrong_standing act asked rest c e o l =
      plain (of c act) ∙ rw (lt-ltb c clients l, e, other_standing asked (standing w c) o)

  -- what holds after one history
  history_holds : (h : List Call) → Holds h w lines
  unfolding asks
  history_holds h =
      record {
        keeps =
            record {
              count = good.inv.count;
              lookup = looks;
              rescue_leaves_nothing =
                  λ c l s e. (no_entries w ghosts lines good c l s e, no_lines_left w ghosts lines good c l s e);
            };
        within = never;
        counts_within = λ s. (good.inv.words s).count;
        eras_within = own_within;
        lets_go = releases;
        only_running_steps = λ c. wrong_standing Act.Step Standing.Running _ c refl;
        only_failed_taken_over = λ c. wrong_standing Act.TakeOver Standing.Failed _ c refl;
        only_in_rescue_rescued = λ c. wrong_standing Act.RescueStep Standing.InRescue _ c refl;
      }

-- demand 3, whole
pub demand3 : Demand3
demand3 =
    record {
      holds = λ h.
          let r = reached h fresh (λ c. none) [] fresh_good in
          history_holds (run fresh h) r.ghost (ledger fresh [] h) r.good h;
      completes_exactly_when_won = completes;
    }
