-- A store and the standings: one that writes no client's leaves them. Assumes nothing.
use Prim.Native.Nat.{◌≤◌}
use mathlib.Core.List.{List}
use mathlib.Core.Path.{◌≡◌, refl, sym}
use lib.ListN.{length}
use lib.Seq.{set_out}
use Rattle.numbers.specs.declared.Client.{Client}
use Rattle.numbers.specs.Sizes.{clients}
use Rattle.block.specs.declared.Standing.{Standing}
use Rattle.block.specs.declared.store.Store.{Store}
use Rattle.block.specs.Store.{standings_after}

module _ (standings : List Standing) (l : length standings ≡ clients) where
  pub standing_kept :
      (store : Store) →
      ((c : Client) (to : Standing) → store ≡ Store.Standing c to → clients ≤ c.0) →
      standings ≡ standings_after store standings
  standing_kept Store.Nothing h = refl
  standing_kept (Store.Header s word) h = refl
  standing_kept (Store.Cell c k held) h = refl
  standing_kept (Store.Log c entry) h = refl
  standing_kept (Store.Era by of e) h = refl
  standing_kept (Store.Standing c to) h = sym (set_out standings c.0 to (rw l (h c to refl)))
