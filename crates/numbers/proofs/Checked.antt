-- What a number's check tells. One law over the kind of number, and the three kinds by it. Assumes nothing.
use Prim.Native.Nat.{ℕ}
use mathlib.Core.Bool.{Bool, true, false, cond}
use mathlib.Core.Path.{◌≡◌, refl}
use lib.Dec.{ltb}
use Rattle.std.specs.Prelude.{Result, Ok, Err}
use Rattle.numbers.specs.declared.Client.{Client}
use Rattle.numbers.specs.declared.Slot.{Slot}
use Rattle.numbers.specs.declared.answers.Answer.{Answer}
use Rattle.numbers.specs.Sizes.{clients, slots, cells, checked_client, checked_slot, checked_cell}

-- the test passed, and x is what was checked
pub record Passed {X : Type 0} (test : Bool) (checked x : X) : Type 0 where
  pub passed : test ≡ true
  pub same : checked ≡ x

module _ {X : Type 0} (refusal : Answer) where
  -- by Ok x
  passes :
      (test : Bool) (checked x : X) →
      ◌≡◌ {A = Result X Answer} (cond test (Ok checked) (Err refusal)) (Ok x) →
      Passed test checked x
  passes true checked x e = record { passed = refl; same = cc }
  passes false checked x e = cc

  -- by an Err
  refuses :
      (test : Bool) (checked : X) {answer : Answer} →
      ◌≡◌ {A = Result X Answer} (cond test (Ok checked) (Err refusal)) (Err answer) →
      test ≡ false
  refuses true checked e = cc
  refuses false checked e = refl

-- a client's number
pub client_known : (c : ℕ) (x : Client) → checked_client c ≡ Ok x → Passed (ltb c clients) (record { 0 = c }) x
client_known c x e = passes Answer.NoSuchClient (ltb c clients) (record { 0 = c }) x e

pub client_large : (c : ℕ) {answer : Answer} → checked_client c ≡ Err answer → ltb c clients ≡ false
client_large c e = refuses {X = Client} Answer.NoSuchClient (ltb c clients) (record { 0 = c }) e

-- a slot's number
pub slot_known : (s : ℕ) (x : Slot) → checked_slot s ≡ Ok x → Passed (ltb s slots) (record { 0 = s }) x
slot_known s x e = passes Answer.NoSuchSlot (ltb s slots) (record { 0 = s }) x e

pub slot_large : (s : ℕ) {answer : Answer} → checked_slot s ≡ Err answer → ltb s slots ≡ false
slot_large s e = refuses {X = Slot} Answer.NoSuchSlot (ltb s slots) (record { 0 = s }) e

-- a cell's number
pub cell_known : (k x : ℕ) → checked_cell k ≡ Ok x → Passed (ltb k cells) k x
cell_known k x e = passes Answer.NoSuchCell (ltb k cells) k x e

pub cell_large : (k : ℕ) {answer : Answer} → checked_cell k ≡ Err answer → ltb k cells ≡ false
cell_large k e = refuses Answer.NoSuchCell (ltb k cells) k e
