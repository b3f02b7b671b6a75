-- Numbers as the output shows them, as lists of bytes; the digit d is the byte 48 + d.
use Rattle.std.specs.Prelude.{ℕ, zero, suc, ◌+◌, ◌/◌, ◌%◌, List, [], ◌∷◌, ◌++◌, ltb}
use Rattle.rules.specs.Choice.{pick}

-- the last k octal digits of n
unfoldable pub octals : ℕ → ℕ → List ℕ
octals zero n = []
octals (suc k) n = octals k (n / 8) ++ (48 + n % 8) ∷ []

-- "six digits each": 18 bits
unfoldable pub octal6 : ℕ → List ℕ
octal6 n = octals 6 n

-- the decimal digits of n, with no zero in front, and at most `bound` of them
unfoldable pub decimals : ℕ → ℕ → List ℕ
decimals zero n = []
decimals (suc bound) n = pick (ltb n 10) ((48 + n) ∷ []) (decimals bound (n / 10) ++ (48 + n % 10) ∷ [])

-- all of them: a number has fewer digits than it counts
unfoldable pub decimal : ℕ → List ℕ
decimal n = decimals (suc n) n
