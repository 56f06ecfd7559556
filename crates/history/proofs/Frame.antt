-- One client moves and all others keep their words: what its move has to tell, and that the invariant then holds of
-- the world after it. No era that others hold of a client falls out of sight, rows only rise, and a header that is
-- replaced had been noted by the client that replaced it. Assumes nothing.
use Prim.Native.Nat.{ℕ, ◌+◌, ◌<◌, ◌≤◌}
use mathlib.Core.List.{List}
use mathlib.Core.Logic.{◌⊎◌, inl, inr, ⊎_elim}
use mathlib.Core.Path.{◌≡◌, refl, sym, ap, ◌∙◌}
use native.Mathlib.Omega.{arith}
use native.Mathlib.Nat.{le_refl}
use Rattle.std.specs.Prelude.{Option, Some, None}
use Rattle.numbers.specs.Sizes.{clients, slots}
use Rattle.header.specs.Header.{era_in, count_in, client_in}
use Rattle.block.specs.declared.Standing.{Standing}
use Rattle.stages.specs.declared.Stage.{Stage}
use Rattle.stages.specs.Stages.{kept_in}
use Rattle.rescue.specs.declared.RescuerStep.{RescuerStep}
use Rattle.calls.specs.declared.Records.{Records}
use Rattle.history.specs.Ledger.{Line, naming}
use Rattle.history.proofs.Updates.{upd, upd_same, upd_all}
use Rattle.history.proofs.Counting.{Ranged, Alike, alike}
use Rattle.history.proofs.Invariant.{Won, none, some, Words, Mine, vis_of, vis, column, Word, Stands, Witness, Evidence, Base, Noted, KeptFits, At, Awaited, Rescuing, Clause, Inv}

-- a function that rises to another
abbrev pub Up : (ℕ → ℕ) → (ℕ → ℕ) → Type 0
Up f g = (j : ℕ) → f j ≤ g j

-- the eras that are seen of each client rise
module _ {seen later : ℕ → ℕ} (up : Up seen later) where
  -- a header is still within its limits
  pub word_up : {h : ℕ} → Word seen h → Word later h
  word_up {h} w =
      record {
        spare = w.spare;
        client = w.client;
        count = w.count;
        era = let u = up (client_in h) in let e = w.era in omega arith;
      }

  -- a kept header is still within its limits
  kept_up : (kept : Option ℕ) → KeptFits seen kept → KeptFits later kept
  kept_up None k = k
  kept_up (Some h) k = word_up k

  -- what is known at a stage is still known
  pub at_up : (c : ℕ) (x : Words) (stage : Stage) → At seen c x stage → At later c x stage
  at_up c x stage a =
      record { fits = a.fits; kept = kept_up (kept_in stage) a.kept; won_is = a.won_is; more = a.more }

-- the eras that others have noted of a client rise
module _ {col next : ℕ → ℕ} (rise : Up col next) where
  -- a witness still is one
  pub witness_up : {c own start : ℕ} → Witness col c own start → Witness next c own start
  witness_up w =
      record {
        at = w.at;
        client = w.client;
        other = w.other;
        later = w.later;
        saw = let u = rise w.at in let e = w.saw in omega arith;
      }

  -- a witness to be met is still to be met
  pub awaited_up : (c own start : ℕ) (won : Won) → Awaited col c own start won → Awaited next c own start won
  awaited_up c own start none a = tt
  awaited_up c own start (some op) a = witness_up a

  module _ {seen later : ℕ → ℕ} (up : Up seen later) where
    -- what is known at a step of a rescue is still known
    pub rescuing_up :
        (c : ℕ) (x : Words) (step : RescuerStep) →
        Rescuing seen col c x step →
        Rescuing later next c x step
    rescuing_up c x RescuerStep.ReadLog r = r
    rescuing_up c x (RescuerStep.Condition1 e) r = r
    rescuing_up c x (RescuerStep.Condition2 e j) r = (r.0, r.1, r.2, awaited_up c (x.row c) j.0 x.won r.3)
    rescuing_up c x (RescuerStep.Cell e) r = r
    rescuing_up c x RescuerStep.Era r = r
    rescuing_up c x RescuerStep.Search r = r
    rescuing_up c x (RescuerStep.Release q) r = (r.0, at_up up c x q.stage r.1)

    -- what is known of a client by its standing is still known, where its lines look the same
    pub clause_up :
        (c : ℕ) (x : Words) {old new : List Line} (standing : Standing) (r : Records) →
        Alike c old new →
        Clause seen col c x old standing r →
        Clause later next c x new standing r
    clause_up c x Standing.Absent r same k = k
    clause_up c x Standing.Running r same k =
        (k.0, at_up up c x r.client.stage k.1, λ j b. same.shows j ∙ k.2 j b)
    clause_up c x Standing.Failed r same k = k
    clause_up c x Standing.InRescue r same k = (k.0, rescuing_up c x r.rescuer.step k.1)

-- two headers tell of the same swap
pub record SameSwap (old new : ℕ) : Type 0 where
  pub client : client_in new ≡ client_in old
  pub era : era_in new ≡ era_in old

-- a header tells of itself
pub same_swap : {h : ℕ} → SameSwap h h
same_swap = record { client = refl; era = refl }

-- a header tells of the same swap, or had been noted by the client that replaced it
abbrev pub Replaced : (ℕ → ℕ) → (ℕ → ℕ) → (ℕ → ℕ) → ℕ → Type 0
Replaced hdr new row s = SameSwap (hdr s) (new s) ⊎ Noted row (hdr s)

-- the move of client a from words x to words y, with n swaps won
pub record Move (seen hdr col : ℕ → ℕ) (a : ℕ) (x : Words) (lines : List Line) (new : ℕ → ℕ) (y : Words)
    (after : List Line) (n : ℕ) : Type 0 where
  pub rise : vis_of a y ≡ vis_of a x + n
  pub row_up : (j : ℕ) → x.row j ≤ y.row j
  pub replaced : (s : ℕ) → Replaced hdr new x.row s
  pub others : (d : ℕ) → (d ≡ a → ⊥) → Alike d lines after
  pub ranged : Ranged after
  pub count : (s : ℕ) → s < slots → count_in (new s) ≡ naming s after
  pub words : (later : ℕ → ℕ) → Up seen later → later a ≡ vis_of a y → (s : ℕ) → Word later (new s)
  pub base : Base seen new col a y after

-- a header of c's that client a replaces: a had noted the era in it, and is a witness from then on
module _ (hdr new next row : ℕ → ℕ) (c a own : ℕ) (b : a < clients) (other : a ≡ c → ⊥) (saw : row c ≤ next a) where
  -- the era that was noted
  noted_it : (d e : ℕ) → e ≤ row d → d ≡ c → e ≡ own → own ≤ next a
  noted_it d e q f g = let r : e ≤ row c = rw f at q in omega arith

  -- the header still stands, or a is the witness
  stands_kept : (s : ℕ) → Replaced hdr new row s → Stands hdr c own s → Stands new c own s ⊎ Witness next c own 0
  stands_kept s (inl q) t = inl (record { client = q.client ∙ t.client; era = q.era ∙ t.era })
  stands_kept s (inr q) t =
      inr
      (record {
        at = a;
        client = b;
        other = other;
        later = omega arith;
        saw = noted_it (client_in (hdr s)) (era_in (hdr s)) q t.client t.era;
      })

-- headers, eras and lines change, and a client's own words do not
module _ {seen later hdr new col next : ℕ → ℕ} {c : ℕ} (x : Words) {old lines : List Line} (up : Up seen later)
    (rise : Up col next)
    (stays : (s : ℕ) → Stands hdr c (x.row c) s → Stands new c (x.row c) s ⊎ Witness next c (x.row c) 0)
    (same : Alike c old lines) where
  -- the evidence of a won swap stays: its header, or a witness
  evidence_up :
      (won : Won) → Evidence hdr col c (x.row c) x.log won → Evidence new next c (x.row c) x.log won
  evidence_up none e = tt
  evidence_up (some op) e =
      record {
        count = e.count;
        logged = e.logged;
        evidence = ⊎_elim (stays op.slot.0) (λ w. inr (witness_up rise w)) e.evidence;
      }

  -- what holds of the words stays
  base_up : Base seen hdr col c x old → Base later new next c x lines
  base_up k =
      record {
        own_some = k.own_some;
        past = λ j p q. let u = up j in let e = k.past j p q in omega arith;
        evidence = evidence_up x.won k.evidence;
        log = k.log;
        cells_fit = k.cells_fit;
        room = rw same.lines k.room;
        due = λ j p. same.slots j ∙ k.due j p;
      }

module _ {hdr : ℕ → ℕ} {of : ℕ → Mine} {lines : List Line} (inv : Inv hdr of lines) (a : ℕ) (b : a < clients) where
  -- the invariant after client a's move
  pub moved :
      {new : ℕ → ℕ} {after : List Line} {n : ℕ} (m : Mine) →
      Move (vis of) hdr (column of a) a (of a).words lines new m.words after n →
      Clause (vis of) (column of a) a m.words after m.standing m.records →
      Inv new (upd of a m) after
  moved {new} {after} m mv cl =
      record {
        words = mv.words later seen_up (ap (λ (x : Mine). vis_of a x.words) (upd_same of a m));
        base =
            upd_all (λ c x. c < clients → Base later new (column (upd of a m) c) c x.words after) of a m
            (λ l. base_up m.words seen_up (col_up a) (λ s t. inl t) alike mv.base)
            (λ c h l. base_up (of c).words seen_up (col_up c) (stays c h) (mv.others c h) (inv.base c l));
        clause =
            upd_all
            (λ c x. c < clients → Clause later (column (upd of a m) c) c x.words after x.standing x.records)
            of a m
            (λ l. clause_up (col_up a) seen_up a m.words m.standing m.records alike cl)
            (λ c h l.
            clause_up (col_up c) seen_up c (of c).words (of c).standing (of c).records (mv.others c h)
            (inv.clause c l));
        count = mv.count;
        ranged = mv.ranged;
      }
    where
      later : ℕ → ℕ
      later = vis (upd of a m)

      seen_up : Up (vis of) later
      seen_up =
          upd_all (λ j x. vis of j ≤ vis_of j x.words) of a m (let e = mv.rise in omega arith) (λ j h. le_refl _)

      col_up : (c : ℕ) → Up (column of c) (column (upd of a m) c)
      col_up c = upd_all (λ j x. column of c j ≤ x.words.row c) of a m (mv.row_up c) (λ j h. le_refl _)

      stays :
          (c : ℕ) →
          (c ≡ a → ⊥) →
          (s : ℕ) →
          Stands hdr c ((of c).words.row c) s →
          Stands new c ((of c).words.row c) s ⊎ Witness (column (upd of a m) c) c ((of c).words.row c) 0
      stays c h s =
          stands_kept hdr new (column (upd of a m) c) (of a).words.row c a ((of c).words.row c) b (λ e. h (sym e))
          (col_up c a) s (mv.replaced s)
