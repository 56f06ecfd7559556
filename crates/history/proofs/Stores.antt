-- What the one store of client a's call changes, over functions: of the headers, of a's words and of a's standing.
-- Assumes nothing.
use Prim.Native.Nat.{ℕ, ◌<◌}
use mathlib.Core.Path.{◌≡◌}
use Rattle.std.specs.Prelude.{Option, Some}
use Rattle.numbers.specs.declared.Slot.{Slot}
use Rattle.numbers.specs.Sizes.{clients, slots, cells}
use Rattle.block.specs.declared.Standing.{Standing}
use Rattle.block.specs.declared.store.Store.{Store}
use Rattle.block.specs.declared.Entry.{Entry}
use Rattle.history.proofs.Updates.{upd}
use Rattle.history.proofs.Invariant.{Won, Words, CellFits}

-- what a store changes of the headers, of a client's row, cells, log and standing; and when it is of client a's own
-- words, or of a header, at a place that there is
pub record Change : Type 1 where
  pub headers : (ℕ → ℕ) → ℕ → ℕ
  pub row : (ℕ → ℕ) → ℕ → ℕ
  pub held : (ℕ → Option Slot) → ℕ → Option Slot
  pub log : Option Entry → Option Entry
  pub standing : Standing → Standing
  pub ours : ℕ → Type 0

-- what a store changes, part by part
abbrev changing :
    ((ℕ → ℕ) → ℕ → ℕ) →
    ((ℕ → ℕ) → ℕ → ℕ) →
    ((ℕ → Option Slot) → ℕ → Option Slot) →
    (Option Entry → Option Entry) →
    (Standing → Standing) →
    (ℕ → Type 0) →
    Change
changing headers row held log standing ours =
    record { headers = headers; row = row; held = held; log = log; standing = standing; ours = ours }

-- a word left as it is
abbrev same : {A : Type 0} → A → A
same x = x

-- what each store changes
abbrev pub changes : Store → Change
changes Store.Nothing = changing same same same same same (λ a. Unit {0})
changes (Store.Header s h) = changing (λ hdr. upd hdr s.0 h) same same same same (λ a. s.0 < slots)
changes (Store.Cell c k held) =
    changing same same (λ f. upd f k held) same same (λ a. (c.0 ≡ a) × (k < cells) × CellFits held)
changes (Store.Log c e) = changing same same same (λ l. Some e) same (λ a. c.0 ≡ a)
changes (Store.Era i j e) =
    changing same (λ row. upd row j.0 e.0) same same same (λ a. (i.0 ≡ a) × (j.0 < clients))
changes (Store.Standing c s) = changing same same same same (λ t. s) (λ a. c.0 ≡ a)

-- the headers after a store
abbrev pub hdr_after : Store → (ℕ → ℕ) → ℕ → ℕ
hdr_after st hdr = (changes st).headers hdr

-- a client's words after a store of its own, with the ghost g
abbrev pub words_after : Store → Won → Words → Words
words_after st g x =
    record {
      row = (changes st).row x.row;
      cells = (changes st).held x.cells;
      log = (changes st).log x.log;
      won = g;
    }

-- a client's standing after a store of its own
abbrev pub standing_after : Store → Standing → Standing
standing_after st s = (changes st).standing s

-- whether a store is client a's own
abbrev pub Ours : ℕ → Store → Type 0
Ours a st = (changes st).ours a
