-- A line's fields: "lines with tabs between fields".
use Rattle.std.specs.Prelude.{ℕ, Bool, true, false, List, [], ◌∷◌, length, drop, ltb, eqb}
use Rattle.rules.specs.Choice.{pick}

-- a byte before the first field
unfoldable pub onto : ℕ → List (List ℕ) → List (List ℕ)
onto b [] = (b ∷ []) ∷ []
onto b (f ∷ fs) = (b ∷ f) ∷ fs

-- each tab, byte 9, ends a field, and a line with no tab is one field
unfoldable pub fields : List ℕ → List (List ℕ)
fields [] = [] ∷ []
fields (b ∷ s) = pick (eqb b 9) ([] ∷ fields s) (onto b (fields s))

-- the first field
unfoldable pub head_of : List ℕ → List ℕ
head_of [] = []
head_of (b ∷ s) = pick (eqb b 9) [] (b ∷ head_of s)

-- the fields that start at a place: none are left past the end
unfoldable pub fields_at : List ℕ → ℕ → List (List ℕ)
fields_at s at = pick (ltb (length s) at) [] (fields (drop at s))

unfoldable pub none : List (List ℕ) → Bool
none [] = true
none (f ∷ fs) = false
