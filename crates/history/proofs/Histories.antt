-- The invariant over a history: after each call, and after any list of calls, with the swaps that each client has won
-- counted beside it. Assumes nothing.
use Prim.Native.Nat.{ℕ, ◌+◌, ◌<◌}
use mathlib.Core.Bool.{Bool, true, false, cond, ◌&&◌, and-false}
use mathlib.Core.List.{List, [], ◌∷◌}
use mathlib.Core.Logic.{⊎_elim}
use mathlib.Core.Path.{◌≡◌, refl, sym, subst, ◌∙◌}
use native.Mathlib.Nat.{add-zero}
use native.Mathlib.Omega.{arith}
use lib.Dec.{eqb}
use borrow.Author.Tests.{eq-eqb, ne_eqb}
use Rattle.std.proofs.lemmas.Bool.{cases_Bool}
use Rattle.numbers.specs.Sizes.{clients}
use Rattle.stages.specs.declared.Outcome.{Outcome}
use Rattle.stages.specs.Stages.{won}
use Rattle.calls.specs.declared.Call.{Call}
use Rattle.calls.specs.declared.Records.{Records}
use Rattle.calls.specs.Calls.{stage_of}
use Rattle.world.specs.World.{World, run_by, run, after}
use Rattle.history.specs.Ledger.{Line, wins_at, given_to, accepts, entered, ledger_by, ledger, wins, swaps_won_by, swaps_won}
use Rattle.history.proofs.Updates.{upd, upd_all}
use Rattle.history.proofs.Invariant.{Won, Mine, vis_of, vis, Inv}
use Rattle.history.proofs.Frame.{moved}
use Rattle.history.proofs.Stores.{hdr_after}
use Rattle.history.proofs.View.{Shaped, placed, hdr_of, mine_of, shaped_placed, mine_placed, headers_placed, mine_next}
use Rattle.history.proofs.Outcomes.{after_accepted, after_refused, performed_accepted, performed_refused, entered_accepted, entered_refused, effect_of, lines_after, passes_accepted, client_passes}
use Rattle.history.proofs.Effects.{Done, done}

-- a world of a history, with the ghost and the ledger
pub record Good (w : World) (ghosts : ℕ → Won) (lines : List Line) : Type 0 where
  pub shape : Shaped w
  pub inv : Inv (hdr_of w) (mine_of w ghosts) lines

module _ (w : World) (ghosts : ℕ → Won) (lines : List Line) (good : Good w ghosts lines) (a : ℕ) (b : a < clients)
    (o : Outcome Records) (after : List Line) (n : Bool) (d : Done w ghosts lines a o after (cond n 1 0)) where
  -- what an accepted call leads to
  settled : Good (placed w o.store a o.next) (upd ghosts a d.ghost) after
  settled =
      record {
        shape = shaped_placed good.shape ghosts a b o.next d.ghost o.store d.ours;
        inv =
            subst (λ (h : ℕ → ℕ). Inv h (mine_of (placed w o.store a o.next) (upd ghosts a d.ghost)) after)
            (sym (headers_placed good.shape ghosts a b o.next d.ghost o.store d.ours))
            (subst (λ (f : ℕ → Mine). Inv (hdr_after o.store (hdr_of w)) f after)
            (sym (mine_placed good.shape ghosts a b o.next d.ghost o.store d.ours))
            (moved good.inv a b next d.move d.clause));
      }
    where
      next : Mine
      next = mine_next good.shape ghosts a b o.next d.ghost o.store

  -- the own era of a client, with what is won, has risen by the swaps that the call wins
  tallied :
      (c : ℕ) →
      vis (mine_of (placed w o.store a o.next) (upd ghosts a d.ghost)) c
      ≡ vis (mine_of w ghosts) c + cond (eqb a c && n) 1 0
  tallied c =
      subst (λ (f : ℕ → Mine). vis f c ≡ vis (mine_of w ghosts) c + cond (eqb a c && n) 1 0)
      (sym (mine_placed good.shape ghosts a b o.next d.ghost o.store d.ours))
      (upd_all (λ c y. vis_of c y.words ≡ vis (mine_of w ghosts) c + cond (eqb a c && n) 1 0) (mine_of w ghosts) a
      (mine_next good.shape ghosts a b o.next d.ghost o.store)
      (rw (eq-eqb a a refl) d.move.rise)
      (λ c q.
      rw (ne_eqb a c (λ e. q (sym e))) (sym (add-zero _)))
      c)

-- what a call leads to
pub record Next (w : World) (ghosts : ℕ → Won) (lines : List Line) (call : Call) : Type 0 where
  pub ghost : ℕ → Won
  pub good : Good (after w call) ghost (entered w call lines)
  pub tally : (c : ℕ) → vis (mine_of (after w call) ghost) c ≡ vis (mine_of w ghosts) c + cond (wins c w call) 1 0

module _ (w : World) (ghosts : ℕ → Won) (lines : List Line) (good : Good w ghosts lines) (call : Call) where
  -- what an accepted call leads to, by its effect
  next_accepted : accepts w call ≡ true → Next w ghosts lines call
  next_accepted e =
      let p = passes_accepted w call e in
      let b = client_passes w call p in
      let d = done w ghosts lines good.inv call.client b call.act p in
      let n = wins_at won (hdr_of w) (stage_of call.act (given_to w call)) in
      record {
        ghost = upd ghosts call.client d.ghost;
        good =
            rw (after_accepted w call e, entered_accepted w call lines e)
            (settled w ghosts lines good call.client b (effect_of w call) (lines_after w call lines) n d);
        tally =
            λ c.
            rw (after_accepted w call e, performed_accepted w call e)
            (tallied w ghosts lines good call.client b (effect_of w call) (lines_after w call lines) n d c);
      }

  -- a refused call leads nowhere
  next_refused : accepts w call ≡ false → Next w ghosts lines call
  next_refused e =
      record {
        ghost = ghosts;
        good = rw (after_refused w call e, entered_refused w call lines e) good;
        tally = λ c. rw (after_refused w call e, performed_refused w call e) (no_win c);
      }
    where
      no_win : (c : ℕ) → vis (mine_of w ghosts) c ≡ vis (mine_of w ghosts) c + cond (eqb call.client c && false) 1 0
      no_win c =
          rw (and-false (eqb call.client c))
          (sym (add-zero _))

  pub next : Next w ghosts lines call
  next = ⊎_elim next_accepted next_refused (cases_Bool (accepts w call))

-- what a list of calls leads to
pub record Reached (w : World) (ghosts : ℕ → Won) (lines : List Line) (h : List Call) : Type 0 where
  pub ghost : ℕ → Won
  pub good : Good (run w h) ghost (ledger w lines h)
  pub tally : (c : ℕ) → vis (mine_of (run w h) ghost) c ≡ vis (mine_of w ghosts) c + swaps_won c w h

-- every list of calls, call by call
pub reached :
    (h : List Call) (w : World) (ghosts : ℕ → Won) (lines : List Line) →
    Good w ghosts lines →
    Reached w ghosts lines h
unfolding run_by ledger_by swaps_won_by
reached [] w ghosts lines good = record { ghost = ghosts; good = good; tally = λ c. omega arith }
reached (call ∷ h) w ghosts lines good =
    let n = next w ghosts lines good call in
    let r = reached h (after w call) n.ghost (entered w call lines) n.good in
    record {
      ghost = r.ghost;
      good = r.good;
      tally =
          λ c.
          let p = n.tally c in
          let q = r.tally c in
          q ∙ (rw p (assoc (vis (mine_of w ghosts) c) (cond (wins c w call) 1 0) (swaps_won c (after w call) h)));
    }
  where
    assoc : (a b c : ℕ) → a + b + c ≡ a + (b + c)
    assoc a b c = omega arith
