-- The era matrix (R1.3, R1.5): eight rows of eight; row i, entry j is what client i has seen of client j.
use Rattle.std.specs.Prelude.{ℕ, List, [], ◌∷◌, get_or}
use Rattle.numbers.specs.declared.Era.{Era}

-- R1.3: the largest era of j that i has seen
abbrev pub seen_era : List (List ℕ) → ℕ → ℕ → Era
seen_era eras i j = record { 0 = get_or (get_or eras i []) j 0 }

-- R1.3: client c's own era
abbrev pub own_era : List (List ℕ) → ℕ → Era
own_era eras c = seen_era eras c c

-- every own era e, all other entries 0
abbrev pub eras_from : Era → List (List ℕ)
eras_from e =
    (e.0 ∷ 0 ∷ 0 ∷ 0 ∷ 0 ∷ 0 ∷ 0 ∷ 0 ∷ [])
    ∷ (0 ∷ e.0 ∷ 0 ∷ 0 ∷ 0 ∷ 0 ∷ 0 ∷ 0 ∷ [])
    ∷ (0 ∷ 0 ∷ e.0 ∷ 0 ∷ 0 ∷ 0 ∷ 0 ∷ 0 ∷ [])
    ∷ (0 ∷ 0 ∷ 0 ∷ e.0 ∷ 0 ∷ 0 ∷ 0 ∷ 0 ∷ [])
    ∷ (0 ∷ 0 ∷ 0 ∷ 0 ∷ e.0 ∷ 0 ∷ 0 ∷ 0 ∷ [])
    ∷ (0 ∷ 0 ∷ 0 ∷ 0 ∷ 0 ∷ e.0 ∷ 0 ∷ 0 ∷ [])
    ∷ (0 ∷ 0 ∷ 0 ∷ 0 ∷ 0 ∷ 0 ∷ e.0 ∷ 0 ∷ [])
    ∷ (0 ∷ 0 ∷ 0 ∷ 0 ∷ 0 ∷ 0 ∷ 0 ∷ e.0 ∷ [])
    ∷ []

-- R1.5: own eras 1, all other entries 0
unfoldable pub fresh_eras : List (List ℕ)
fresh_eras = eras_from (record { 0 = 1 })
