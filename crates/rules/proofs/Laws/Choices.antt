-- What a test tells, and what holds of a choice by one.
use mathlib.Core.Path.{◌≡◌, refl}
use mathlib.Core.Bool.{Bool, true, false, ◌&&◌, ◌||◌}
use Prim.Native.Nat.{ℕ}
use native.Mathlib.Omega.{arith}
use Rattle.rules.specs.Choice.{pick}

pub true_is_not_false : {X : Type 0} → true ≡ false → X
true_is_not_false e = absurd (let z : ◌≡◌ {A = ℕ} 0 1 = cc in omega arith)

pub both_true : (a b : Bool) → (a && b) ≡ true → (a ≡ true) × (b ≡ true)
both_true true b e = (refl, e)
both_true false b e = (e, cc)

pub both_false : (a b : Bool) → (a || b) ≡ false → (a ≡ false) × (b ≡ false)
both_false true b e = (e, cc)
both_false false b e = (refl, e)

pub second_false : (a b : Bool) → (a && b) ≡ false → a ≡ true → b ≡ false
second_false true b e t = e
second_false false b e t = cc

-- what holds of a, where the test says so, and of b, where it does not, holds of the choice
pub picked : {A : Type 0} (P : A → Type 0) (t : Bool) (a b : A) → (t ≡ true → P a) → (t ≡ false → P b) → P (pick t a b)
unfolding pick
picked P true a b f g = f refl
picked P false a b f g = g refl

pub pick_true : {A : Type 0} (t : Bool) (a b : A) → t ≡ true → pick t a b ≡ a
unfolding pick
pick_true true a b e = refl
pick_true false a b e = cc

pub pick-false : {A : Type 0} (t : Bool) (a b : A) → t ≡ false → pick t a b ≡ b
unfolding pick
pick-false true a b e = cc
pick-false false a b e = refl

pub pick_same : {A : Type 0} (t : Bool) (a : A) → pick t a a ≡ a
unfolding pick
pick_same true a = refl
pick_same false a = refl
