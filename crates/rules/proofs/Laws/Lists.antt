-- Lists by their elements, with a default past the end, and what the search of a list says.
use mathlib.Core.Path.{◌≡◌, refl, sym, ap}
use mathlib.Core.Logic.{◌⊎◌, inl, inr, ⊎_map}
use mathlib.Core.Bool.{Bool, true, false}
use mathlib.Core.List.{List, [], ◌∷◌, map}
use Prim.Native.Nat.{ℕ, zero, suc, ◌+◌}
use native.Mathlib.Omega.{arith}
use lib.Dec.{eqb}
use lib.ListN.{length, get_or, set, take, replicate}
use borrow.Author.Tests.{eqb-true, eqb-false}
use Rattle.std.specs.Prelude.{Some, None}
use Rattle.rules.specs.Choice.{pick}
use Rattle.rules.specs.Registers.{found_from}

module _ {A : Type 0} (P : A → Type 0) where
  -- what holds of the new element and of the old ones holds of each element after a store
  pub get_d_set_either : (l : List A) (i j : ℕ) (v d : A) → P v → P (get_or l i d) → P (get_or (set l j v) i d)
  get_d_set_either [] i j v d n o = o
  get_d_set_either (x ∷ xs) zero zero v d n o = n
  get_d_set_either (x ∷ xs) (suc i) zero v d n o = o
  get_d_set_either (x ∷ xs) zero (suc j) v d n o = o
  get_d_set_either (x ∷ xs) (suc i) (suc j) v d n o = get_d_set_either xs i j v d n o

module _ {A : Type 0} where
  -- an element after a store is the new one, at its place, or the old one
  pub set_cases :
      (l : List A) (i j : ℕ) (v d : A) → ((i ≡ j) × (get_or (set l j v) i d ≡ v)) ⊎ (get_or (set l j v) i d ≡ get_or l i d)
  set_cases [] i j v d = inr refl
  set_cases (x ∷ xs) zero zero v d = inl (refl, refl)
  set_cases (x ∷ xs) (suc i) zero v d = inr refl
  set_cases (x ∷ xs) zero (suc j) v d = inr refl
  set_cases (x ∷ xs) (suc i) (suc j) v d = ⊎_map (λ h. (ap suc h.0, h.1)) (λ h. h) (set_cases xs i j v d)

  pub get_d_replicate_default : (n i : ℕ) (d : A) → get_or (replicate n d) i d ≡ d
  get_d_replicate_default zero i d = refl
  get_d_replicate_default (suc n) zero d = refl
  get_d_replicate_default (suc n) (suc i) d = get_d_replicate_default n i d

-- the first elements of a list, under what is done to the whole of it
module _ {A : Type 0} where
  pub take_set : (n i : ℕ) (l : List A) (v : A) → take n (set l i v) ≡ set (take n l) i v
  take_set zero i l v = refl
  take_set (suc n) i [] v = refl
  take_set (suc n) zero (x ∷ xs) v = refl
  take_set (suc n) (suc i) (x ∷ xs) v = ap (λ (l : List A). x ∷ l) (take_set n i xs v)

  pub take_map : {B : Type 0} (f : A → B) (n : ℕ) (l : List A) → take n (map f l) ≡ map f (take n l)
  take_map f zero l = refl
  take_map f (suc n) [] = refl
  take_map f (suc n) (x ∷ xs) = ap (λ (l : List _). f x ∷ l) (take_map f n xs)

  pub take_replicate : {B : Type 0} (n : ℕ) (l : List A) (v : B) → take n (replicate (length l) v) ≡ replicate (length (take n l)) v
  take_replicate zero l v = refl
  take_replicate (suc n) [] v = refl
  take_replicate (suc n) (x ∷ xs) v = ap (λ (l : List _). v ∷ l) (take_replicate n xs v)

-- an element that is found is there
pub found_is_there :
    (d n i x : ℕ) (l : List ℕ) → found_from n l x ≡ Some i → (j : ℕ) × (i ≡ n + j) × (get_or l j d ≡ x)
unfolding found_from pick
found_is_there d n i x [] e = absurd (let z : ◌≡◌ {A = ℕ} 0 1 = cc in omega arith)
found_is_there d n i x (y ∷ ys) e = go (eqb x y) refl e (found_is_there d (suc n) i x ys)
  where
    go : (t : Bool) → eqb x y ≡ t → pick t (Some n) (found_from (suc n) ys x) ≡ Some i
        → (found_from (suc n) ys x ≡ Some i → (j : ℕ) × (i ≡ suc n + j) × (get_or ys j d ≡ x))
        → (j : ℕ) × (i ≡ n + j) × (get_or (y ∷ ys) j d ≡ x)
    go true t e ih = let s : i ≡ n = cc in (0, omega arith, sym (eqb-true x y t))
    go false t e ih = let r = ih e in (suc r.0, omega arith, r.2)

-- one that is missing is nowhere
pub missing_is_nowhere :
    (d n x : ℕ) (l : List ℕ) → found_from n l x ≡ None → (d ≡ x → ⊥) → (j : ℕ) → get_or l j d ≡ x → ⊥
unfolding found_from pick
missing_is_nowhere d n x [] e o j h = o h
missing_is_nowhere d n x (y ∷ ys) e o j h = go (eqb x y) refl e j h (missing_is_nowhere d (suc n) x ys)
  where
    go : (t : Bool) → eqb x y ≡ t → pick t (Some n) (found_from (suc n) ys x) ≡ None
        → (j : ℕ) → get_or (y ∷ ys) j d ≡ x
        → (found_from (suc n) ys x ≡ None → (d ≡ x → ⊥) → (j : ℕ) → get_or ys j d ≡ x → ⊥) → ⊥
    go true t e j h ih = let z : ◌≡◌ {A = ℕ} 0 1 = cc in omega arith
    go false t e zero h ih = eqb-false x y t (sym h)
    go false t e (suc j) h ih = ih e o j h
