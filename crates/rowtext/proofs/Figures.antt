-- The laws of a number's digits after a text: one more of them, the room that they leave, and how many there are.
use Prim.Native.Nat.{ℕ, zero, suc, ◌+◌, ◌-◌, ◌/◌, ◌%◌, ◌^◌, ◌≤◌, ◌<◌}
use mathlib.Core.Path.{◌≡◌, sym}
use mathlib.Core.List.{List, [], ◌∷◌, ◌++◌, append_assoc, append-nil}
use native.Mathlib.Omega.{arith}
use lib.ListN.{length}
use Rattle.std.proofs.Common.{length-append}
use Rattle.rowtext.specs.Digits.{octals, decimal}
use Rattle.rowtext.proofs.Decimals.{decimal_steps, decimal_bound}

-- one more octal digit after a text, and none
pub octals_more : (text : List ℕ) (k n : ℕ) → 0 < k → text ++ octals k n ≡ (text ++ octals (k - 1) (n / 8)) ++ (48 + n % 8) ∷ []
unfolding octals
octals_more text zero n h = let z : ⊥ = omega arith in absurd z
octals_more text (suc k) n h =
    let e : suc k - 1 ≡ k = omega arith in
    rw e (sym (append_assoc text (octals k (n / 8)) ((48 + n % 8) ∷ [])))

pub octals_none : (text : List ℕ) (k n : ℕ) → k ≤ 0 → text ++ octals k n ≡ text
unfolding octals
octals_none text zero n h = append-nil text
octals_none text (suc k) n h = let z : ⊥ = omega arith in absurd z

-- one more decimal digit after a text, and how many there are
pub decimal_more : (text : List ℕ) (n : ℕ) → 9 < n → text ++ decimal n ≡ (text ++ decimal (n / 10)) ++ (48 + n % 10) ∷ []
decimal_more text n h = rw (decimal_steps n h) (sym (append_assoc text (decimal (n / 10)) ((48 + n % 10) ∷ [])))

pub decimal_length_more : (n : ℕ) → 9 < n → length (decimal n) ≡ length (decimal (n / 10)) + 1
decimal_length_more n h = rw (decimal_steps n h) (length-append (decimal (n / 10)) ((48 + n % 10) ∷ []))

-- the room that the digits before the last leave, and that 20 bytes are enough for all
pub decimal_leaves : (text : List ℕ) (n : ℕ) → 9 < n → length text + length (decimal n) ≤ 64 → length (text ++ decimal (n / 10)) < 64
decimal_leaves text n h room = omega (arith, length-append text (decimal (n / 10)), decimal_length_more n h)

pub decimal_length : (n : ℕ) → n < 2 ^ 64 → length (decimal n) ≤ 20
decimal_length n h = decimal_bound 19 n (omega arith)

pub decimal_takes : (text : List ℕ) (n : ℕ) → n < 2 ^ 64 → length (text ++ decimal n) ≤ length text + 20
decimal_takes text n h = omega (arith, length-append text (decimal n), decimal_length n h)
