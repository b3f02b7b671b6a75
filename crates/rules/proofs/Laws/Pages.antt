-- Pages by their tags: two pages have two tags, and only exec page zero has tag 0.
use mathlib.Core.Path.{◌≡◌, refl}
use mathlib.Core.Bool.{Bool, true, false}
use Prim.Native.Nat.{ℕ, ◌-◌, ◌<◌}
use native.Mathlib.Omega.{arith}
use lib.Dec.{ltb}
use borrow.Author.Tests.{eqb-true, eqb-false, ne_eqb, ltb-true, ltb-false}
use Rattle.rules.specs.Choice.{pick}
use Rattle.rules.specs.Maps.{page_of, exec_zero, looked, tag_of, high7}
use Rattle.rules.proofs.Promises.{ExecZeroUncelled}

pub page_of-below : (a : ℕ) → page_of a < 128
unfolding page_of high7
page_of-below a = omega arith

pub tag_of-below : (user : Bool) (p : ℕ) → p < 128 → tag_of user p < 256
unfolding tag_of pick
tag_of-below true p h = omega arith
tag_of-below false p h = omega arith

-- a page by its tag
pub record Page (tag : ℕ) : Type 0 where
  pub user : Bool
  pub page : ℕ
  pub below : page < 128
  pub same : tag ≡ tag_of user page

pub page_by : (tag : ℕ) → tag < 256 → Page tag
unfolding tag_of pick
page_by tag h = go (ltb tag 128) refl
  where
    go : (t : Bool) → ltb tag 128 ≡ t → Page tag
    go true t = record { user = false; page = tag; below = ltb-true tag 128 t; same = refl }
    go false t =
        let l = ltb-false tag 128 t in
        record { user = true; page = tag - 128; below = omega arith; same = omega arith }

-- only exec page zero has tag 0
pub nonzero_tag : (user : Bool) (p : ℕ) → (tag_of user p ≡ 0 → ⊥) → exec_zero user p ≡ false
unfolding tag_of exec_zero pick
nonzero_tag true p z = refl
nonzero_tag false p z = ne_eqb p 0 z

-- equal tags are of one user or exec, and of one page
pub same-user : (user user₁ : Bool) (p p₁ : ℕ) → p < 128 → p₁ < 128 → tag_of user p ≡ tag_of user₁ p₁ → user ≡ user₁
unfolding tag_of pick
same-user true true p p₁ h h₁ e = refl
same-user true false p p₁ h h₁ e = absurd (omega arith)
same-user false true p p₁ h h₁ e = absurd (omega arith)
same-user false false p p₁ h h₁ e = refl

pub same-page : (user user₁ : Bool) (p p₁ : ℕ) → p < 128 → p₁ < 128 → tag_of user p ≡ tag_of user₁ p₁ → p ≡ p₁
unfolding tag_of pick
same-page true true p p₁ h h₁ e = omega arith
same-page true false p p₁ h h₁ e = omega arith
same-page false true p p₁ h h₁ e = omega arith
same-page false false p p₁ h h₁ e = e

tag-zero : (user : Bool) (p : ℕ) → exec_zero user p ≡ true → tag_of user p ≡ 0
unfolding tag_of pick exec_zero
tag-zero true p e = cc
tag-zero false p e = eqb-true p 0 e

pub tag-other : (user : Bool) (p : ℕ) → exec_zero user p ≡ false → tag_of user p ≡ 0 → ⊥
unfolding tag_of pick exec_zero
tag-other true p e z = omega arith
tag-other false p e z = eqb-false p 0 e z

pub exec_zero_uncelled : ExecZeroUncelled
unfolding looked exec_zero pick
exec_zero_uncelled = record { tag-zero = tag-zero; tag-other = tag-other; look_up = λ m r k. refl }
