-- The digits say the number: read back, `decimal n` is n, and `octal6 n` is n where n has 18 bits.
use Prim.Native.Nat.{ℕ, zero, suc, ◌+◌, ◌-◌, ◌*◌, ◌/◌, ◌%◌, ◌^◌, ◌<◌}
use mathlib.Core.Path.{◌≡◌, refl, ◌∙◌}
use mathlib.Core.Bool.{Bool, true, false}
use mathlib.Core.List.{List, [], ◌∷◌, ◌++◌}
use native.Mathlib.Nat.{pow-suc}
use native.Mathlib.Omega.{arith}
use lib.Dec.{ltb}
use borrow.Author.Tests.{ltb-false}
use Rattle.rules.specs.Choice.{pick}
use Rattle.rowtext.specs.Digits.{octals, octal6, decimals, decimal}

-- what digits say in a base, after digits that say v
abbrev pub read_from : ℕ → ℕ → List ℕ → ℕ
read_from base v [] = v
read_from base v (d ∷ ds) = read_from base (v * base + (d - 48)) ds

read_last : (base v : ℕ) (a : List ℕ) (d : ℕ) → read_from base v (a ++ d ∷ []) ≡ read_from base v a * base + (d - 48)
read_last base v [] d = refl
read_last base v (x ∷ a) d = read_last base (v * base + (x - 48)) a d

decimals-back : (bound n : ℕ) → n < bound → read_from 10 0 (decimals bound n) ≡ n
unfolding decimals pick
decimals-back zero n h = let z : ⊥ = omega arith in absurd z
decimals-back (suc bound) n h = by (ltb n 10) refl (decimals-back bound (n / 10))
  where
    by : (t : Bool) → ltb n 10 ≡ t → (n / 10 < bound → read_from 10 0 (decimals bound (n / 10)) ≡ n / 10)
        → read_from 10 0 (pick t ((48 + n) ∷ []) (decimals bound (n / 10) ++ (48 + n % 10) ∷ [])) ≡ n
    by true e less = omega arith
    by false e less =
        let m = ltb-false n 10 e in
        let r = less (omega arith) in
        read_last 10 0 (decimals bound (n / 10)) (48 + n % 10) ∙ omega arith

pub decimal-back : (n : ℕ) → read_from 10 0 (decimal n) ≡ n
unfolding decimal
decimal-back n = decimals-back (suc n) n (omega arith)

octals-back : (k n : ℕ) → n < 8 ^ k → read_from 8 0 (octals k n) ≡ n
unfolding octals
octals-back zero n h = omega arith
octals-back (suc k) n h =
    let r = octals-back k (n / 8) (omega (arith, pow-suc 8 k)) in
    read_last 8 0 (octals k (n / 8)) (48 + n % 8) ∙ omega arith

pub octal_back : (n : ℕ) → n < 2 ^ 18 → read_from 8 0 (octal6 n) ≡ n
unfolding octal6
octal_back n h = octals-back 6 n h
