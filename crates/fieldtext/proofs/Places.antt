-- Where the fields past the first stand: behind its tab, so that a line can be read field by field from any place, by `field_end` and `octal`.
use Prim.Native.Nat.{ℕ, suc, ◌+◌, ◌-◌, ◌≤◌, ◌<◌}
use mathlib.Core.Path.{◌≡◌, refl, ap, sym, ◌∙◌}
use mathlib.Core.Bool.{Bool, true, false}
use mathlib.Core.List.{List, [], ◌∷◌}
use native.Mathlib.Omega.{arith}
use lib.ListN.{length, drop, length-drop}
use lib.Dec.{ltb, eqb, leb-suc-suc}
use lib.Seq.{drop-drop}
use borrow.Author.Tests.{lt-ltb, le-ltb, ltb-true, ltb-false}
use Rattle.rules.specs.Choice.{pick}
use Rattle.fieldtext.specs.Cut.{onto, fields, head_of, fields_at, none}

-- a line is its first field, and the fields that start past its tab
pub fields_placed : (s : List ℕ) → fields s ≡ head_of s ∷ fields_at s (suc (length (head_of s)))
unfolding fields head_of fields_at onto pick
fields_placed [] = refl
fields_placed (b ∷ s) = by (eqb b 9) (fields_placed s)
  where
    by : (t : Bool) → fields s ≡ head_of s ∷ fields_at s (suc (length (head_of s)))
        → pick t ([] ∷ fields s) (onto b (fields s))
        ≡ pick t [] (b ∷ head_of s) ∷ fields_at (b ∷ s) (suc (length (pick t [] (b ∷ head_of s))))
    by true e = simp (le-ltb (suc (length s)) 1 (omega arith))
    by false e = simp (e, leb-suc-suc (suc (length s)) (suc (length (head_of s))))

-- two tests that hold together are one Bool
pub same_test : (a b c d : ℕ) → (a < b → c < d) → (b ≤ a → d ≤ c) → ltb a b ≡ ltb c d
same_test a b c d f g = go (ltb a b) refl
  where
    go : (t : Bool) → ltb a b ≡ t → t ≡ ltb c d
    go true e = sym (lt-ltb c d (f (ltb-true a b e)))
    go false e = sym (le-ltb c d (g (ltb-false a b e)))

-- what starts at e in the rest starts at `at + e` in the whole
pub fields_rest : (s : List ℕ) (at e : ℕ) → at ≤ length s → fields_at (drop at s) e ≡ fields_at s (at + e)
unfolding fields_at
fields_rest s at e h =
    simp (length-drop, drop-drop, same_test (length s - at) e (length s) (at + e) (λ k. omega arith) (λ k. omega arith))

-- with e the length of the first field from a place on: the fields that start there are that one, and those behind its tab
pub fields_step : (s : List ℕ) (at e : ℕ) → at ≤ length s → e ≡ length (head_of (drop at s))
    → fields_at s at ≡ head_of (drop at s) ∷ fields_at s (at + e + 1)
unfolding fields_at pick
fields_step s at e h k = here ∙ fields_placed (drop at s) ∙ ap (λ (fs : List (List ℕ)). head_of (drop at s) ∷ fs) there
  where
    here : fields_at s at ≡ fields (drop at s)
    here = simp (le-ltb (length s) at h)

    there : fields_at (drop at s) (suc (length (head_of (drop at s)))) ≡ fields_at s (at + e + 1)
    there = fields_rest s at (suc (length (head_of (drop at s)))) h ∙ ap (fields_at s) (omega arith)

pub none_left : (s : List ℕ) (at : ℕ) → none (fields_at s at) ≡ ltb (length s) at
unfolding fields_at none pick
none_left s at = go (ltb (length s) at)
  where
    go : (t : Bool) → none (pick t [] (fields (drop at s))) ≡ t
    go true = refl
    go false = rw (fields_placed (drop at s))
