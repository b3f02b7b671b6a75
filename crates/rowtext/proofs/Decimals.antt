-- The decimal digits of any number, however large: one of them taken off the end, and how many there are. Below 2 ^ 64 the library prints the same.
use Prim.Native.Nat.{ℕ, zero, suc, ◌+◌, ◌/◌, ◌%◌, ◌^◌, ◌≤◌, ◌<◌}
use mathlib.Core.Path.{◌≡◌, refl, ap, sym, ◌∙◌}
use mathlib.Core.Bool.{Bool, true, false}
use mathlib.Core.List.{List, [], ◌∷◌, ◌++◌}
use native.Mathlib.Nat.{pow-suc}
use native.Mathlib.Omega.{arith}
use lib.ListN.{length, length-append}
use lib.Dec.{ltb}
use borrow.Author.Tests.{lt-ltb, le-ltb, ltb-true, ltb-false}
use Rattle.rules.specs.Choice.{pick}
use Rattle.std.specs.Fmt.{decimal as library_decimal}
use Rattle.std.proofs.lemmas.Fmt.{AppendsLastDigit, decimal_from_appends, length-decimal-le_succ}
use Rattle.rowtext.specs.Digits.{decimals, decimal}

-- one digit, and one more: by these alone the other laws go, and std's too
last_digit_at_the_end : AppendsLastDigit decimals
unfolding decimals pick
last_digit_at_the_end = record {
  one = λ k n h. simp (lt-ltb n 10 h);
  more = λ k n h. simp (le-ltb n 10 h);
}

-- the bound of a decimal number does not matter
pub same_decimals : (f g n : ℕ) → n < f → n < g → decimals f n ≡ decimals g n
same_decimals zero g n h k = let z : ⊥ = omega arith in absurd z
same_decimals (suc f) zero n h k = let z : ⊥ = omega arith in absurd z
same_decimals (suc f) (suc g) n h k = by (ltb n 10) refl (same_decimals f g (n / 10))
  where
    by : (t : Bool) → ltb n 10 ≡ t → (n / 10 < f → n / 10 < g → decimals f (n / 10) ≡ decimals g (n / 10)) → decimals (suc f) n ≡ decimals (suc g) n
    by true e less =
        let m = ltb-true n 10 e in
        last_digit_at_the_end.one f n m ∙ sym (last_digit_at_the_end.one g n m)
    by false e less =
        let m = ltb-false n 10 e in
        last_digit_at_the_end.more f n m ∙ ap (λ (l : List ℕ). l ++ (48 + n % 10) ∷ []) (less (omega arith) (omega arith)) ∙ sym (last_digit_at_the_end.more g n m)

pub decimal_one : (n : ℕ) → n < 10 → decimal n ≡ (48 + n) ∷ []
unfolding decimal
decimal_one n h = last_digit_at_the_end.one n n h

pub decimal_steps : (n : ℕ) → 9 < n → decimal n ≡ decimal (n / 10) ++ (48 + n % 10) ∷ []
unfolding decimal
decimal_steps n h =
    last_digit_at_the_end.more n n h ∙ ap (λ (l : List ℕ). l ++ (48 + n % 10) ∷ []) (same_decimals n (suc (n / 10)) (n / 10) (omega arith) (omega arith))

-- a number below 10 ^ (k + 1) has at most k + 1 digits, and every number has one
pub decimal_bound : (k n : ℕ) → n < 10 ^ suc k → length (decimal n) ≤ suc k
decimal_bound zero n h = omega (arith, ap length (decimal_one n h))
decimal_bound (suc k) n h = by (ltb n 10) refl (decimal_bound k (n / 10) (omega (arith, pow-suc 10 (suc k))))
  where
    by : (t : Bool) → ltb n 10 ≡ t → length (decimal (n / 10)) ≤ suc k → length (decimal n) ≤ suc (suc k)
    by true e i = omega (arith, ap length (decimal_one n (ltb-true n 10 e)))
    by false e i =
        let l : length (decimal n) ≡ length (decimal (n / 10)) + 1 = ap length (decimal_steps n (ltb-false n 10 e)) ∙ length-append (decimal (n / 10)) ((48 + n % 10) ∷ []) in
        omega arith

pub decimal_some : (n : ℕ) → 0 < length (decimal n)
decimal_some n = by (ltb n 10) refl
  where
    by : (t : Bool) → ltb n 10 ≡ t → 0 < length (decimal n)
    by true e = omega (arith, ap length (decimal_one n (ltb-true n 10 e)))
    by false e = omega (arith, ap length (decimal_steps n (ltb-false n 10 e)) ∙ length-append (decimal (n / 10)) ((48 + n % 10) ∷ []))

-- below 2 ^ 64, as far as a number of the machine goes, they are what the library prints
pub same_decimal : (n : ℕ) → n < 2 ^ 64 → library_decimal n ≡ decimal n
unfolding decimal
same_decimal n h = sym (decimal_from_appends decimals last_digit_at_the_end (suc n) n h (omega (arith, length-decimal-le_succ n h)))
