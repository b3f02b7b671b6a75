-- The laws of reading numbers one after the other, for any number of them.
use Prim.Native.Nat.{ℕ, suc, ◌+◌, ◌-◌, ◌<◌, ◌≤◌}
use mathlib.Core.Path.{◌≡◌, refl, ap, sym, ◌∙◌}
use mathlib.Core.Bool.{Bool, true, false, ◌&&◌, and-false, not}
use mathlib.Core.List.{List, [], ◌∷◌, ◌++◌, map, append_assoc, append-nil}
use native.Mathlib.Omega.{arith}
use lib.ListN.{length, take, set}
use Rattle.std.proofs.lemmas.List.{take_more_set}
use lib.Seq.{take_all}
use lib.Dec.{eqb, eqb-suc-zero, eqb-zero-suc, eqb-suc-suc}
use denote.Ref.{Bor}
use Rattle.std.specs.Prelude.{Option, Some, None}
use Rattle.std.specs.Bool.{then_some}
use Rattle.std.specs.Option.{is_some}
use Rattle.std.specs.Iterator.{AlwaysYields}
use Rattle.rules.specs.Choice.{pick}
use Rattle.fieldtext.specs.Number.{is_number, worth, number_of, all_numbers, numbers, numbers_of}

-- n numbers of the fields fs behind the words ws
abbrev pub numbers_after : List ℕ → ℕ → List (List ℕ) → Option (List ℕ)
numbers_after ws n fs = pick (numbers n fs) (Some (ws ++ map worth fs)) None

pub numbers_start : (n : ℕ) (fs : List (List ℕ)) → numbers_of n fs ≡ numbers_after [] n fs
unfolding numbers_of
numbers_start n fs = refl

-- one field more: a number, or none
abbrev after_one : List ℕ → ℕ → List (List ℕ) → Option ℕ → Option (List ℕ)
after_one ws n fs (Some w) = numbers_after (ws ++ w ∷ []) n fs
after_one ws n fs None = None

numbers_more : (ws : List ℕ) (n : ℕ) (f : List ℕ) (fs : List (List ℕ)) → numbers_after ws (suc n) (f ∷ fs) ≡ after_one ws n fs (number_of f)
unfolding numbers all_numbers number_of pick
numbers_more ws n f fs = rw eqb-suc-suc (by (is_number f))
  where
    by : (t : Bool) → pick (eqb (length fs) n && (t && all_numbers fs)) (Some (ws ++ worth f ∷ map worth fs)) None
        ≡ after_one ws n fs (pick t (Some (worth f)) None)
    by true = simp append_assoc
    by false = simp and-false

-- What an iterator s of fields leaves, where it gives the fields `left` and then none, and what it leaves once it gave the next as t
module _ {S : Type 0} (steps : S → Option (Bor (List ℕ)) → S → Type 0) (s t : S) (left : List (List ℕ)) (y : AlwaysYields steps (λ f. f.now) s left) where
  -- no field where a number is to come
  pub no_field : (ws : List ℕ) (n i : ℕ) → i < n → steps s None t → numbers_after ws (n - i) left ≡ None
  unfolding numbers pick
  no_field ws n i h k = let m : n - i ≡ suc (n - i - 1) = omega arith in rw m (go left y)
    where
      go : (left : List (List ℕ)) → AlwaysYields steps (λ f. f.now) s left → numbers_after ws (suc (n - i - 1)) left ≡ None
      go [] y = simp eqb-zero-suc
      go (f ∷ left) y = absurd (y.0 t k)

  -- after the numbers: no field more, or one
  pub at_end : (ws : List ℕ) (n i : ℕ) → n ≤ i → length ws ≡ n → (r : Option (Bor (List ℕ))) → steps s r t → (b : Bool) → is_some r ≡ not b
      → numbers_after (take i ws) (n - i) left ≡ then_some b ws
  unfolding numbers all_numbers pick
  at_end ws n i h l r k b e =
      let z : n - i ≡ 0 = omega arith in
      rw (z, take_all i ws (omega arith)) (go left y r k b e)
    where
      go : (left : List (List ℕ)) → AlwaysYields steps (λ f. f.now) s left → (r : Option (Bor (List ℕ))) → steps s r t → (b : Bool) → is_some r ≡ not b
          → numbers_after ws 0 left ≡ then_some b ws
      go [] y None k true e = simp append-nil
      go [] y None k false e = cc
      go [] y (Some x) k b e = absurd (y x t k)
      go (f ∷ left) y None k b e = absurd (y.0 t k)
      go (f ∷ left) y (Some x) k true e = cc
      go (f ∷ left) y (Some x) k false e = simp eqb-suc-zero

  module _ (x : Bor (List ℕ)) (k : steps s (Some x) t) where
    -- a field where a number is to come
    pub one : (ws : List ℕ) (n i : ℕ) (w : Option ℕ) → i < n → w ≡ number_of x.now
        → (rest : List (List ℕ)) × AlwaysYields steps (λ f. f.now) t rest × (numbers_after ws (n - i) left ≡ after_one ws (n - (i + 1)) rest w)
    one ws n i w h e = go left y
      where
        go : (left : List (List ℕ)) → AlwaysYields steps (λ f. f.now) s left
            → (rest : List (List ℕ)) × AlwaysYields steps (λ f. f.now) t rest × (numbers_after ws (n - i) left ≡ after_one ws (n - (i + 1)) rest w)
        go [] y = absurd (y x t k)
        go (f ∷ left) y =
            let m : n - i ≡ suc (n - (i + 1)) = omega arith in
            let r = y.1 x t k in
            (left, r.1, rw m (numbers_more ws (n - (i + 1)) f left ∙ ap (after_one ws (n - (i + 1)) left) (ap number_of (sym r.0) ∙ sym e)))

    pub no_number : (ws : List ℕ) (n i : ℕ) → i < n → None ≡ number_of x.now → numbers_after ws (n - i) left ≡ None
    no_number ws n i h e = (one ws n i None h e).2

    pub one_number : (ws : List ℕ) (n i w : ℕ) → i < n → length ws ≡ n → Some w ≡ number_of x.now
        → (rest : List (List ℕ)) × AlwaysYields steps (λ f. f.now) t rest
        × (numbers_after (take i ws) (n - i) left ≡ numbers_after (take (i + 1) (set ws i w)) (n - (i + 1)) rest)
    one_number ws n i w h l e =
        let o = one (take i ws) n i (Some w) h e in
        let room : i < length ws = omega arith in
        (o.0, o.1, o.2 ∙ rw (take_more_set ws i w room))
