-- How the one search of a list goes on: what it finds at a place, past a place, and at the end.
use Prim.Native.Nat.{ℕ, suc, ◌+◌, ◌<◌}
use mathlib.Core.Path.{◌≡◌, refl}
use mathlib.Core.Bool.{Bool, true, false, ◌||◌}
use mathlib.Core.List.{List, [], ◌∷◌}
use native.Mathlib.Numerals.{add-one}
use borrow.Author.Tests.{eq-eqb, ne_eqb}
use lib.Dec.{eqb}
use lib.ListN.{length, get_or, drop}
use lib.Seq.{drop-cons, drop-length}
use Rattle.std.specs.Prelude.{Option, Some, None, is_some}
use Rattle.rules.specs.Choice.{pick}
use Rattle.rules.specs.Registers.{found_from, among}

pub found_from-here : (l : List ℕ) (i x : ℕ) → i < length l → x ≡ get_or l i 0 → found_from i (drop i l) x ≡ Some i
unfolding found_from pick
found_from-here l i x h e = rw (drop-cons l i 0 h) (simp (eq-eqb _ _ e))

pub found_from-later : (l : List ℕ) (i x : ℕ) → i < length l → (x ≡ get_or l i 0 → ⊥)
    → found_from i (drop i l) x ≡ found_from (i + 1) (drop (i + 1) l) x
unfolding found_from pick
found_from-later l i x h n = rw (drop-cons l i 0, add-one i) (simp (ne_eqb _ _ n))

pub found_from-end : (l : List ℕ) (i x : ℕ) → i ≡ length l → found_from i (drop i l) x ≡ None
unfolding found_from
found_from-end l i x e = rw (e, drop-length l)

-- whether something is found does not go by the number from which one counts
found_by : (t : Bool) (i j : ℕ) (a b : Option ℕ) → is_some a ≡ is_some b → is_some (pick t (Some i) a) ≡ is_some (pick t (Some j) b)
unfolding pick
found_by true i j a b e = refl
found_by false i j a b e = e

found_from-any_start : (ys : List ℕ) (i j x : ℕ) → is_some (found_from i ys x) ≡ is_some (found_from j ys x)
unfolding found_from
found_from-any_start [] i j x = refl
found_from-any_start (y ∷ ys) i j x = found_by (eqb x y) i j _ _ (found_from-any_start ys (suc i) (suc j) x)

pub among_first : (x y : ℕ) (ys : List ℕ) → among x (y ∷ ys) ≡ (eqb x y || among x ys)
unfolding among found_from pick
among_first x y ys = go (eqb x y)
  where
    go : (t : Bool) → is_some (pick t (Some 0) (found_from 1 ys x)) ≡ (t || is_some (found_from 0 ys x))
    go true = refl
    go false = found_from-any_start ys 1 0 x
