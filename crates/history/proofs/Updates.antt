-- One value of a function replaced by another. Assumes nothing.
use Prim.Native.Nat.{ℕ}
use mathlib.Core.Bool.{cond}
use mathlib.Core.Logic.{⊎_elim}
use mathlib.Core.Path.{◌≡◌, refl, sym}
use lib.Dec.{eqb}
use Rattle.std.proofs.lemmas.Bool.{cases_eq, eq-eqb, ne_eqb}

module _ {A : Type 0} where
  -- the function f with v at i
  unfoldable pub upd : (ℕ → A) → ℕ → A → ℕ → A
  upd f i v j = cond (eqb j i) v (f j)

  -- f with v at i is v at i
  pub upd_same : (f : ℕ → A) (i : ℕ) (v : A) → upd f i v i ≡ v
  unfolding upd
  upd_same f i v = rw (eq-eqb i i refl)

  -- f with v at i is f elsewhere
  pub upd_other : (f : ℕ → A) (i : ℕ) (v : A) (j : ℕ) → (j ≡ i → ⊥) → upd f i v j ≡ f j
  unfolding upd
  upd_other f i v j h = rw (ne_eqb j i h)

  -- what holds of v at i and of f elsewhere holds of f with v at i
  pub upd_all :
      (P : ℕ → A → Type 0) (f : ℕ → A) (i : ℕ) (v : A) →
      P i v →
      ((j : ℕ) → (j ≡ i → ⊥) → P j (f j)) →
      (j : ℕ) →
      P j (upd f i v j)
  upd_all P f i v p q j =
      ⊎_elim
      (λ (e : j ≡ i). rw (e, upd_same f i v) p)
      (λ (h : j ≡ i → ⊥). rw (upd_other f i v j h) (q j h))
      (cases_eq j i)

  -- a value written twice
  pub upd_twice : (f : ℕ → A) (i : ℕ) (v : A) (j : ℕ) → upd (upd f i v) i v j ≡ upd f i v j
  upd_twice f i v = upd_all (λ j y. y ≡ upd f i v j) (upd f i v) i v (sym (upd_same f i v)) (λ j h. refl)

  -- a value written where it was
  pub upd_there : (f : ℕ → A) (i : ℕ) (v : A) → f i ≡ v → (j : ℕ) → upd f i v j ≡ f j
  upd_there f i v e = upd_all (λ j y. y ≡ f j) f i v (sym e) (λ j h. refl)
