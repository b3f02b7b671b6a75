-- The laws of digits: what one more of them does, and what a field's digits come to as a number.
use Prim.Native.Nat.{ℕ, suc, ◌+◌, ◌-◌, ◌*◌, ◌^◌, ◌≤◌, ◌<◌}
use mathlib.Core.Path.{◌≡◌, refl}
use mathlib.Core.Bool.{Bool, true, false, ◌&&◌, and-false}
use mathlib.Core.List.{List}
use native.Mathlib.Numerals.{add-one}
use native.Mathlib.Nat.{pow-suc, pow-le-pow_right, mul-le-mul_left}
use native.Mathlib.Omega.{arith}
use lib.ListN.{length, get_or, drop, drop_of_length-le}
use lib.Dec.{ltb}
use lib.Seq.{drop-cons}
use borrow.Author.Tests.{lt-ltb, le-ltb, ltb-true}
use Rattle.std.specs.Prelude.{Option, Some, None}
use Rattle.rules.specs.Choice.{pick}
use Rattle.fieldtext.specs.Number.{is_digit, digit_of, all_digits, worth, worth_from, are_digits, digits_of, is_number, number_of}

-- what the bytes f say after digits that say v, where all are digits
abbrev pub told_from : ℕ → ℕ → List ℕ → Option ℕ
told_from base v f = pick (all_digits base f) (Some (worth_from base v f)) None

module _ (base : ℕ) where
  -- no byte more
  pub told_end : (f : List ℕ) (v i : ℕ) → length f ≤ i → told_from base v (drop i f) ≡ Some v
  unfolding all_digits worth_from pick
  told_end f v i h = rw (drop_of_length-le f h)

  -- one byte more: a digit, or none
  abbrev told_after : ℕ → List ℕ → Option ℕ → Option ℕ
  told_after v f (Some d) = told_from base (v * base + d) f
  told_after v f None = None

  pub told_more : (f : List ℕ) (v i : ℕ) (d : Option ℕ) → i < length f → d ≡ digit_of base (get_or f i 0)
      → told_from base v (drop i f) ≡ told_after v (drop (i + 1) f) d
  unfolding all_digits worth_from digit_of pick
  told_more f v i d h e = rw (add-one, drop-cons f i 0) (by (is_digit base (get_or f i 0)) (drop (suc i) f) d e)
    where
      by : (t : Bool) (s : List ℕ) (d : Option ℕ) → d ≡ pick t (Some (get_or f i 0 - 48)) None
          → pick (t && all_digits base s) (Some (worth_from base (v * base + (get_or f i 0 - 48)) s)) None ≡ told_after v s d
      by true s d e = simp e
      by false s d e = simp e

pub digit_below : (base b d : ℕ) → Some d ≡ digit_of base b → d < base
unfolding digit_of is_digit pick
digit_below base b d = by (ltb 47 b) (ltb b (48 + base)) refl refl
  where
    by : (l h : Bool) → ltb 47 b ≡ l → ltb b (48 + base) ≡ h → Some d ≡ pick (l && h) (Some (b - 48)) None → d < base
    by true true e f g =
        let k : d ≡ b - 48 = cc in
        omega (arith, ltb-true 47 b e, ltb-true b (48 + base) f)
    by true false e f g = cc
    by false h e f g = cc

-- so many digits can say so much, of a base up to ten
pub one_more : (base v d i : ℕ) → base ≤ 10 → v < 10 ^ i → d < base → v * base + d < 10 ^ (i + 1)
one_more base v d i b h k = omega (arith, mul-le-mul_left v b, ten_more i)
  where
    ten_more : (i : ℕ) → 10 ^ (i + 1) ≡ 10 ^ i * 10
    ten_more i = rw add-one (pow-suc 10 i)

pub ten_small : (i : ℕ) → i ≤ 9 → 10 ^ i ≤ 1000000000
ten_small i h = pow-le-pow_right {n = 10} (omega arith) {i = i} {j = 9} (omega arith)

module _ (base most : ℕ) (f : List ℕ) where
  pub digits_none : length f ≡ 0 → digits_of base most f ≡ None
  unfolding digits_of are_digits pick
  digits_none h = simp h

  pub digits_many : most < length f → digits_of base most f ≡ None
  unfolding digits_of are_digits pick
  digits_many h = simp (le-ltb (length f) (most + 1) (omega arith), and-false)

  pub digits_told : 0 < length f → length f ≤ most → digits_of base most f ≡ told_from base 0 f
  unfolding digits_of are_digits
  digits_told h l = simp (lt-ltb 0 (length f) h, lt-ltb (length f) (most + 1) (omega arith))

-- what a field's digits come to as a number, and that a field is that
abbrev pub number_by : Option ℕ → Option ℕ
number_by (Some v) = pick (ltb v 65536) (Some v) None
number_by None = None

pub number_by_digits : (f : List ℕ) → number_of f ≡ number_by (digits_of 8 6 f)
unfolding digits_of number_of is_number worth pick
number_by_digits f = by (are_digits 8 6 f)
  where
    by : (t : Bool) → pick (t && ltb (worth_from 8 0 f) 65536) (Some (worth_from 8 0 f)) None ≡ number_by (pick t (Some (worth_from 8 0 f)) None)
    by true = refl
    by false = refl
