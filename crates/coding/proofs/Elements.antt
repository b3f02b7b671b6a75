-- A list by its elements at fixed places, one by one.
use Prim.Native.Nat.{ℕ, zero, suc, ◌+◌, ◌≤◌}
use mathlib.Core.Path.{◌≡◌, ap, ◌∙◌}
use mathlib.Core.List.{List, [], ◌∷◌}
use native.Mathlib.Omega.{arith}
use lib.ListN.{length, get_or, drop}
use lib.Seq.{drop-cons, drop-length}

-- n elements from place i on, and then a rest
unfoldable pub elements : List ℕ → ℕ → ℕ → List ℕ → List ℕ
elements w i zero r = r
elements w i (suc n) r = get_or w i 0 ∷ elements w (suc i) n r

pub elements-then : (w : List ℕ) (i n j : ℕ) → i + n ≡ j → j ≤ length w → drop i w ≡ elements w i n (drop j w)
unfolding elements
elements-then w i zero j e h =
    let same : i ≡ j = omega arith in
    ap (λ (k : ℕ). drop k w) same
elements-then w i (suc n) j e h =
    drop-cons w i 0 (omega arith) ∙ ap (λ (l : List ℕ). get_or w i 0 ∷ l) (elements-then w (suc i) n j (omega arith) h)

-- from place i on a list has its last n elements, and nothing more
pub elements-last : (w : List ℕ) (i n : ℕ) → length w ≡ i + n → drop i w ≡ elements w i n []
elements-last w i n long =
    elements-then w i n (length w) (omega arith) (omega arith) ∙ ap (elements w i n) (drop-length w)
