-- Numbers by their digits: those of a field, "1-6 octal digits up to 177777", and a count, "1 to 9 decimal digits".
use Rattle.std.specs.Prelude.{ℕ, ◌+◌, ◌-◌, ◌*◌, Bool, true, ◌&&◌, Option, Some, None, List, [], ◌∷◌, length, map, ltb, eqb}
use Rattle.rules.specs.Choice.{pick}

-- 0 is byte 48; a base has as many digits as it counts, and is at most ten here
unfoldable pub is_digit : ℕ → ℕ → Bool
is_digit base b = ltb 47 b && ltb b (48 + base)

-- the digit that a byte is
unfoldable pub digit_of : ℕ → ℕ → Option ℕ
digit_of base b = pick (is_digit base b) (Some (b - 48)) None

unfoldable pub all_digits : ℕ → List ℕ → Bool
all_digits base [] = true
all_digits base (b ∷ f) = is_digit base b && all_digits base f

-- what the digits f say after digits that say v
unfoldable pub worth_from : ℕ → ℕ → List ℕ → ℕ
worth_from base v [] = v
worth_from base v (b ∷ f) = worth_from base (v * base + (b - 48)) f

-- from 1 to `most` digits
unfoldable pub are_digits : ℕ → ℕ → List ℕ → Bool
are_digits base most f = ltb 0 (length f) && ltb (length f) (most + 1) && all_digits base f

unfoldable pub digits_of : ℕ → ℕ → List ℕ → Option ℕ
digits_of base most f = pick (are_digits base most f) (Some (worth_from base 0 f)) None

unfoldable pub worth : List ℕ → ℕ
worth f = worth_from 8 0 f

-- "Numbers are 1-6 octal digits up to 177777."
unfoldable pub is_number : List ℕ → Bool
is_number f = are_digits 8 6 f && ltb (worth f) 65536

unfoldable pub number_of : List ℕ → Option ℕ
number_of f = pick (is_number f) (Some (worth f)) None

-- "N is 1 to 9 decimal digits." (T-08)
unfoldable pub decimal_of : List ℕ → Option ℕ
decimal_of f = digits_of 10 9 f

unfoldable pub all_numbers : List (List ℕ) → Bool
all_numbers [] = true
all_numbers (f ∷ fs) = is_number f && all_numbers fs

-- exactly n fields, each a number
unfoldable pub numbers : ℕ → List (List ℕ) → Bool
numbers n fs = eqb (length fs) n && all_numbers fs

-- the numbers that they say
unfoldable pub numbers_of : ℕ → List (List ℕ) → Option (List ℕ)
numbers_of n fs = pick (numbers n fs) (Some (map worth fs)) None
